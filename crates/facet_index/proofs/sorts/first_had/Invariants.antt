use Rattle.std.proofs.Common.{◌≡◌, length}
use Rattle.std.specs.List.{find}
use Rattle.facet_index.specs.Starts.{in_direction, stops_at}
use Rattle.facet_index.proofs.sorts.first_had.Given as goal

abbrev pub invariant-loop-word : goal.invariant-loop-word
invariant-loop-word l = find (stops_at l.up l.path.0 l.universe.ids) (in_direction l.up l.rows)
    ≡ find (stops_at l.up l.path.0 l.universe.ids) (in_direction l.up l.initial.rows)

abbrev pub decreases-loop-word : goal.decreases-loop-word
decreases-loop-word l = length (in_direction l.up l.rows)
