use Rattle.std.proofs.Common.{◌≡◌, ◌++◌, length}
use Rattle.facet_index.specs.Ends.{ends_of}
use Rattle.facet_index.specs.Places.{places_of, AreNarrow}
use Rattle.facet_index.proofs.EndLemmas.{ends_left}
use Rattle.facet_index.proofs.ends.add_ends.Given as goal

abbrev pub invariant-paths : goal.invariant-paths
invariant-paths l = record {
  places : l.places.items ++ places_of (ends_left l.leaves l.rest) ≡ l.initial.places.items ++ places_of (ends_of l.leaves);
  narrow : AreNarrow (ends_left l.leaves l.rest) → AreNarrow (ends_of l.leaves);
}

abbrev pub decreases-paths : goal.decreases-paths
decreases-paths l = length l.rest
