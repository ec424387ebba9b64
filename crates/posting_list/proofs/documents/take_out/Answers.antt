use Rattle.std.proofs.Common.{not, ◌&&◌, ◌||◌, eqb, sym, ap, ◌∙◌}
use Rattle.std.proofs.lemmas.Bool.{eqb-true}
use Rattle.doc_sets.specs.Sets.{has}
use Rattle.doc_sets.proofs.SetLemmas.{has-without_id}
use Rattle.posting_list.specs.Sets.{has_passing, is_part}
use Rattle.posting_list.proofs.SetLemmas.{is_out}
use Rattle.posting_list.proofs.documents.take_out.Goals as goal

pub returns-then-not-is_in : goal.returns-then-not-is_in
returns-then-not-is_in c = λ id.
    let p = is_part c.args.part in
    let entry = c.args.entry in
    let old = c.args.set.now.ids in
    let list = c.args.list.now.entries in
    let doc = c.document_of-id.result.0 in
    ap (λ v. has v id) c.remove-was.ensures.ids ∙ has-without_id doc id old c.len-documents.ensures.increasing
    ∙ is_out (has old id) (eqb doc id) (p entry) (has_passing p list id) (sym c.is_part.ensures ∙ c.if-is_part.true)
    (λ e. ap (has_passing p list) (sym (eqb-true doc id e)) ∙ sym c.if-not-is_in.ensures)
    ∙ ap (λ d. has old id && (not (eqb d id && p entry) || has_passing p list id)) c.document_of-id.ensures
