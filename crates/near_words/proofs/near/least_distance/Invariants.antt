use Rattle.std.proofs.Common.{◌+◌, ◌-◌, length}
use Rattle.near_words.proofs.WalkLemmas.{Walked}
use Rattle.near_words.proofs.near.least_distance.Given as goal

abbrev pub invariant-loop-i : goal.invariant-loop-i
invariant-loop-i l = Walked l.left l.right l.i l.j l.least

abbrev pub decreases-loop-i : goal.decreases-loop-i
decreases-loop-i l = (length l.left - l.i) + (length l.right - l.j)
