use Rattle.std.proofs.Common.{◌∷◌, ap, subst}
use Rattle.row_index.specs.Changes.{IsChangeOf}
use Rattle.row_index.specs.Documents.{document_with}
use Rattle.doc_index.proofs.LastLemmas.{on-ok}
use Rattle.doc_index.proofs.change.take_one.Goals as goal

pub returns : goal.returns
returns c =
    on-ok _ _ c.take_out.result (λ told gone come is.
    subst (λ documents. IsChangeOf c.take_out.new.self documents come) (ap (λ rows. document_with c.args.stored.now.id.0 rows ∷ gone) c.in_ok-rows.ensures) (told gone come is))
    c.take_out.ensures
