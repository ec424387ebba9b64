use Rattle.std.proofs.Common.{◌||◌, ap, ◌∙◌, sym, eqb}
use Rattle.sorted_pages.specs.Entries.{has}
use Rattle.doc_sets.proofs.SetLemmas.{has-with_id}
use Rattle.posting_sets.specs.Found.{has_document}
use Rattle.posting_sets.proofs.WalkLemmas.{turned_or}
use Rattle.posting_sets.proofs.found.add_entries.Goals as goal

pub loop-entry-preserved : goal.loop-entry-preserved
loop-entry-preserved c = λ q.
    let id = c.document_of.result.0 in
    let left = has_document c.next.new.self q in
    let old = has c.loop-entry.builder q in
    ap (λ v. left || has v q) c.in_ok-add_id.ensures.ids ∙ ap (λ b. left || b) (has-with_id id q c.loop-entry.builder)
    ∙ turned_or left (eqb id q) old ∙ ap (λ d. (eqb d q || left) || old) c.document_of.ensures
    ∙ ap (λ v. has_document v q || old) (sym c.in-Some.ensures.steps) ∙ c.loop-entry.invariant q
