use Rattle.std.proofs.Common.{◌≡◌, length}
use Rattle.std.specs.List.{filter}
use Rattle.posting_sets.specs.Starts.{is_inside}
use Rattle.posting_sets.proofs.occurrences.next_inside.Given as goal

abbrev pub invariant-loop-entry : goal.invariant-loop-entry
invariant-loop-entry l = filter (is_inside l.universe.ids) l.entries ≡ filter (is_inside l.universe.ids) l.initial.entries

abbrev pub decreases-loop-entry : goal.decreases-loop-entry
decreases-loop-entry l = length l.entries
