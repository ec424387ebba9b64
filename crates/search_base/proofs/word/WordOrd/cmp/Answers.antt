use Rattle.std.proofs.Common.{sym}
use Rattle.search_base.proofs.HeadLemmas.{head-less, head-greater}
use Rattle.search_base.proofs.word.WordOrd.cmp.Goals as goal

pub returns-then-self-other : goal.returns-then-self-other
returns-then-self-other c =
    rw (← c.self.view_is, ← c.other.view_is) (sym (head-less _ _ c.self.invariant.1 c.other.invariant.1 (rw (← c.self.invariant.0, ← c.other.invariant.0) c.if-self-other.true)))

pub returns-then-other-self : goal.returns-then-other-self
returns-then-other-self c =
    rw (← c.self.view_is, ← c.other.view_is) (sym (head-greater _ _ c.self.invariant.1 c.other.invariant.1 (rw (← c.self.invariant.0, ← c.other.invariant.0) c.if-other-self.true)))
