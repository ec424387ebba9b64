use Rattle.std.proofs.Common.{List, ap, ◌∙◌}
use Rattle.std.specs.Prelude.{slice_get}
use Rattle.document_changes.specs.declared.change.ChangeKind.{ChangeKind}
use Rattle.named_indexes.proofs.Effects.{each_fills, each_empties, each_names, names_alone}
use Rattle.named_indexes.proofs.changes.make.Goals as goal

pub name-requires-clause-few : goal.name-requires-clause-few
name-requires-clause-few g c =
    let first = c.in-Some.ensures.value ∙ ap (λ (xs : List ChangeKind). slice_get xs 0) c.deref.ensures.value in
    names_alone c.args.changes.items c.in-Some.change.now first c.requires.batch c.in-Name.ensures

pub name-requires-clause-names : goal.name-requires-clause-names
name-requires-clause-names g c =
    let first = c.in-Some.ensures.value ∙ ap (λ (xs : List ChangeKind). slice_get xs 0) c.deref.ensures.value in
    each_names c.args.changes.items c.in-Some.change.now first c.requires.batch c.in-Name.ensures

pub fill-requires-clause-fill : goal.fill-requires-clause-fill
fill-requires-clause-fill g c =
    let first = c.in-Some.ensures.value ∙ ap (λ (xs : List ChangeKind). slice_get xs 0) c.deref.ensures.value in
    each_fills c.args.changes.items c.in-Some.change.now first c.requires.batch c.in-Fill.ensures

pub empty-requires-clause-empty : goal.empty-requires-clause-empty
empty-requires-clause-empty g c =
    let first = c.in-Some.ensures.value ∙ ap (λ (xs : List ChangeKind). slice_get xs 0) c.deref.ensures.value in
    each_empties c.args.changes.items c.in-Some.change.now first c.requires.batch c.in-Empty.ensures
