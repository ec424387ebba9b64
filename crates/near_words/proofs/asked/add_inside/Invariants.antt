use Rattle.std.proofs.Common.{◌≡◌, ◌++◌, length}
use Rattle.near_words.specs.Inside.{inside}
use Rattle.near_words.proofs.asked.add_inside.Given as goal

abbrev pub invariant-loop-id : goal.invariant-loop-id
invariant-loop-id l = l.entries.items ++ inside l.universe.ids l.left ≡ l.fn.entries.items ++ inside l.universe.ids l.list.entries

abbrev pub decreases-loop-id : goal.decreases-loop-id
decreases-loop-id l = length l.left
