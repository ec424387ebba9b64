use Rattle.std.proofs.Common.{[], sym, ap, ◌∙◌, map, subst}
use Rattle.std.proofs.lemmas.List.{nil_from_length}
use Rattle.row_index.specs.Changes.{IsChangeOf}
use Rattle.doc_index.specs.Documents.{rising}
use Rattle.index_changes.specs.Images.{row_under}
use Rattle.index_changes.proofs.image.read_each.Goals as goal

pub returns-clause-change : goal.returns-clause-change
returns-clause-change g c = λ is.
    let left = c.loop-document.document-iterator.rest in
    let none = nil_from_length left.items (sym left.ok.0 ∙ c.in-None.ensures.steps.0) in
    let reader = c.args.reader.now in
    let came = c.loop-document.invariant.change is in
    subst (IsChangeOf c.loop-document.change []) (ap (λ ds. rising reader.paths.now reader.uses.now (map (row_under reader.key.now) ds) came.0) (sym none) ∙ came.2
    ∙ ap (λ ds. rising reader.paths.now reader.uses.now (map (row_under reader.key.now) ds) []) c.into_iter-document-iterator.ensures.into_iter_gives.0) came.1
