use Rattle.std.proofs.Common.{[], ◌∷◌, ap, subst, ◌∙◌}
use Rattle.search_base.specs.RowsView.{RowsView}
use Rattle.doc_rows.specs.Rows.{rows_of}
use Rattle.row_index.specs.Changes.{IsChangeOf}
use Rattle.row_index.specs.Documents.{document_with}
use Rattle.index_changes.proofs.image.read_one.Goals as goal

pub returns-clause-change : goal.returns-clause-change
returns-clause-change c = λ come is.
    let reader = c.args.reader.now in
    subst (λ (rows : RowsView). IsChangeOf c.put_in.new.self [] (document_with c.args.document.id.0 rows ∷ come))
    (c.in_ok-rows.ensures ∙ ap (λ d. rows_of d reader.paths.now reader.uses.now) c.in_ok-document.ensures)
    (c.in_ok-put_in.ensures [] come is)
