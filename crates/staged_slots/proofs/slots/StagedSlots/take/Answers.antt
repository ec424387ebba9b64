use Rattle.std.proofs.Common.{ap, ◌∙◌, None, length, arith, slice_set}
use Rattle.std.proofs.Math.Seq.{take-set-lt}
use Rattle.std.proofs.lemmas.List.{length-take-le}
use Rattle.staged_slots.specs.Staged.{StagedView}
use Rattle.staged_slots.proofs.slots.StagedSlots.take.Goals as goal

pub returns-clause-slots : goal.returns-clause-slots
returns-clause-slots g c =
    let s = c.self.inside in
    let n = length-take-le s.slots s.items.items (omega (arith, c.self.invariant)) in
    let l = ap (λ (v : StagedView g.row.T.Denot). length v.slots) c.self.view_is in
    let e = take-set-lt s.slots s.items.items c.args.at None (omega (arith, n, l, c.requires)) in
    rw c.replace.ensures.after (e ∙ ap (λ (v : StagedView g.row.T.Denot). slice_set v.slots c.args.at None) c.self.view_is)
