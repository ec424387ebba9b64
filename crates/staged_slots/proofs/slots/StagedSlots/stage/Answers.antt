use Rattle.std.proofs.Common.{ap, ◌∙◌, ◌∷◌, [], ◌++◌}
use Rattle.staged_slots.specs.Staged.{StagedView}
use Rattle.staged_slots.proofs.Moving.{IsCut-push, staged-push}
use Rattle.staged_slots.proofs.slots.StagedSlots.stage.Goals as goal

pub invariant_of-self-2 : goal.invariant_of-self-2
invariant_of-self-2 g c = let s = c.self.inside in rw c.in_ok-push.ensures.items (IsCut-push s.items.items s.slots s.next c.args.value c.self.invariant)

pub returns-clause-staged : goal.returns-clause-staged
returns-clause-staged g c =
    let s = c.self.inside in
    rw c.in_ok-push.ensures.items
    (staged-push s.items.items s.next c.args.value c.self.invariant.within ∙ ap (λ (v : StagedView g.row.T.Denot). v.staged ++ c.args.value ∷ []) c.self.view_is)
