use Rattle.std.proofs.Common.{◌≡◌, ◌++◌}
use Rattle.posting_sets.proofs.prefix.add_places.Given as goal

abbrev pub invariant-loop-entry : goal.invariant-loop-entry
invariant-loop-entry l = l.row.items ++ l.entry-iterator ≡ l.initial.row.items ++ l.initial.entry-iterator
