use Rattle.std.proofs.Common.{◌≡◌, ◌≤◌, ◌+◌, ap, ◌∙◌, None, Some, length, arith}
use Rattle.std.proofs.lemmas.List.{get_or_read, length-take-le}
use Rattle.staged_slots.specs.Staged.{StagedView, settled}
use Rattle.staged_slots.proofs.Moving.{IsCut-moved, first-moved, next-within, slots-moved}
use Rattle.staged_slots.proofs.slots.StagedSlots.settle.Goals as goal

pub invariant_of-self : goal.invariant_of-self
invariant_of-self g c =
    let s = c.self.inside in
    let l = ap (λ (v : StagedView g.row.T.Denot). length v.staged) c.self.view_is in
    let within = next-within s.items.items s.next (omega (arith, l, c.requires.staged)) in
    rw c.replace-first.ensures.after
    (IsCut-moved s.items.items s.slots s.next c.args.at (s.slots + 1) c.replace-first.result c.self.invariant within
    (omega (arith, c.self.invariant, c.if-at-self.true))
    (omega (arith, c.self.invariant)) (omega arith) (omega (arith, c.if-at-self.true)))

pub invariant_of-self-else-at-self : goal.invariant_of-self-else-at-self
invariant_of-self-else-at-self g c =
    let s = c.self.inside in
    let l = ap (λ (v : StagedView g.row.T.Denot). length v.staged) c.self.view_is in
    let n = length-take-le s.slots s.items.items (omega (arith, c.self.invariant)) in
    let m = ap (λ (v : StagedView g.row.T.Denot). length v.slots) c.self.view_is in
    let within = next-within s.items.items s.next (omega (arith, l, c.requires.staged)) in
    rw c.replace-first.ensures.after
    (IsCut-moved s.items.items s.slots s.next c.args.at s.slots c.replace-first.result c.self.invariant within
    (omega (arith, c.self.invariant, n, m, c.requires.slot))
    (omega (arith, c.self.invariant)) (omega arith) (omega (arith, n, m, c.requires.slot, c.if-at-self.false)))

pub returns-else-at-self : goal.returns-else-at-self
returns-else-at-self g c =
    λ first rest e.
    let s = c.self.inside in
    let l = ap (λ (v : StagedView g.row.T.Denot). length v.staged) c.self.view_is in
    let n = length-take-le s.slots s.items.items (omega (arith, c.self.invariant)) in
    let m = ap (λ (v : StagedView g.row.T.Denot). length v.slots) c.self.view_is in
    let within = next-within s.items.items s.next (omega (arith, l, c.requires.staged)) in
    let low : c.args.at ≤ s.next = omega (arith, c.self.invariant, n, m, c.requires.slot) in
    let staged = ap (λ (v : StagedView g.row.T.Denot). v.staged) c.self.view_is ∙ e in
    let both = first-moved s.items.items s.slots s.next c.args.at c.replace-first.result first rest c.self.invariant within low staged in
    let value : c.replace-first.result ≡ Some first =
    c.replace-first.ensures.value ∙ get_or_read s.items.items s.next c.index_mut.result.now within c.index_mut.ensures.value None ∙ both.0 in
    let slots = slots-moved s.items.items s.slots s.next c.args.at first c.self.invariant.order within (omega (arith, n, m, c.requires.slot, c.if-at-self.false)) in
    rw c.replace-first.ensures.after (both.1, rw value (slots ∙ ap (λ (v : StagedView g.row.T.Denot). settled c.args.at first v.slots) c.self.view_is))
