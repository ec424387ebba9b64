use Rattle.std.proofs.Common.{◌||◌, ◌+◌, take, get_or, eqb, ap, ◌∙◌}
use Rattle.std.proofs.lemmas.List.Folds.{list_any_more}
use Rattle.sorted_pages.specs.Entries.{has}
use Rattle.doc_sets.proofs.SetLemmas.{has-with_id}
use Rattle.posting_sets.specs.Entries.{document_of}
use Rattle.posting_sets.specs.Found.{has_document}
use Rattle.posting_sets.proofs.PrefixLemmas.{added_step}
use Rattle.posting_sets.proofs.prefix.add_row.Goals as goal

pub loop-entry-preserved : goal.loop-entry-preserved
loop-entry-preserved c = λ q.
    let row = c.args.row.now in
    let i = c.loop-entry.entry-index in
    let x = get_or row i 0 in
    let old = has c.loop-entry.builder q in
    added_step _ (eqb (document_of x) q) old (has_document (take i row) q) (has c.args.builder.now q) (has_document (take (i + 1) row) q)
    (ap (λ v. has v q) c.in_ok-add_id.ensures.ids ∙ has-with_id c.document_of.result.0 q c.loop-entry.builder ∙ ap (λ d. eqb d q || old) c.document_of.ensures)
    (c.loop-entry.invariant q)
    (list_any_more (λ entry. eqb (document_of entry) q) row i 0 c.loop-entry-test.true)
