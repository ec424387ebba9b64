use Rattle.std.proofs.Common.{◌≡◌, ◌∙◌, ◌∷◌, false, sym, ap, subst}
use Rattle.row_index.specs.Changes.{IsChangeOf}
use Rattle.row_index.specs.Documents.{document_with, has_id}
use Rattle.doc_index.proofs.LastLemmas.{on-ok, last-new}
use Rattle.doc_index.proofs.change.put_last.Goals as goal

pub returns-clause-change : goal.returns-clause-change
returns-clause-change c =
    on-ok _ _ c.put_in.result (λ told gone come is ids.
    let none : has_id c.args.id.0 come ≡ false = sym (ids c.args.id.0) ∙ sym c.contains.ensures ∙ c.if-contains.false in
    subst (IsChangeOf c.put_in.new.self gone)
    (ap (λ rows. document_with c.args.id.0 rows ∷ come) c.in_ok-rows.ensures ∙ sym (last-new c.args.paths.now c.args.uses.now c.args.id.0 c.args.row.now come none))
    (told gone come is))
    c.put_in.ensures
