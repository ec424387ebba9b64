use Rattle.std.proofs.Common.{◌∙◌, ◌∷◌, [], ap, subst}
use Rattle.row_index.specs.Changes.{IsChangeOf}
use Rattle.row_index.specs.Documents.{document_with}
use Rattle.doc_rows.specs.Rows.{rows_of}
use Rattle.doc_index.proofs.LastLemmas.{on-ok}
use Rattle.doc_index.proofs.RowLemmas.{with-found}
use Rattle.doc_index.proofs.whole.put_stored.Goals as goal

pub returns-clause-change : goal.returns-clause-change
returns-clause-change g c =
    let s = c.args.store.now.content in
    on-ok _ _ c.put_in.result (λ told come is.
    subst (IsChangeOf c.put_in.new.self [])
    (ap (λ rows. document_with c.args.id.0 rows ∷ come) (c.in_ok-rows.ensures ∙ ap (λ paths. rows_of c.in-Some.text.now paths c.args.uses.now) c.paths.ensures)
    ∙ with-found s.paths c.args.uses.now c.args.id.0 s.rows c.in-Some.text.now come c.in-Some.ensures.document)
    (told [] come is))
    c.put_in.ensures
