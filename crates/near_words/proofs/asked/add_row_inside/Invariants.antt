use Rattle.std.proofs.Common.{◌≡◌, ◌++◌, take}
use Rattle.near_words.specs.Inside.{inside}
use Rattle.near_words.proofs.asked.add_row_inside.Given as goal

abbrev pub invariant-loop-entry : goal.invariant-loop-entry
invariant-loop-entry l = l.entries.items ≡ l.initial.entries.items ++ inside l.universe.ids (take l.entry-index l.row)
