use Rattle.std.proofs.Common.{◌+◌, ap, ◌∙◌, arith}
use Rattle.std.specs.Prelude.{slice_get}
use Rattle.doc_sets.proofs.PlaceLemmas.{read-at, above-at, above-gap}
use Rattle.doc_sets.proofs.merge.first_above.Goals as goal

pub returns-in-Ok : goal.returns-in-Ok
returns-in-Ok c =
    let xs = c.args.ids.now in
    c.copied.ensures ∙ read-at xs (c.in-Ok.at + 1) _ c.get.ensures.lookup ∙ ap (slice_get xs) (omega arith) ∙ above-at xs c.args.id c.in-Ok.at c.requires c.in-Ok.ensures.found

pub returns-in-Err : goal.returns-in-Err
returns-in-Err c =
    let xs = c.args.ids.now in
    c.copied-in-Err.ensures ∙ read-at xs c.in-Err.at _ c.get-in-Err.ensures.lookup ∙ above-gap xs c.args.id c.in-Err.at c.in-Err.ensures.absent
