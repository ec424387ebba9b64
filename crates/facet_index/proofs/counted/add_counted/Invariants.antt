use Rattle.std.proofs.Common.{◌≡◌, ◌++◌, take, drop}
use Rattle.facet_index.specs.Counted.{counted_from, counted_of, HasSeen}
use Rattle.facet_index.specs.Places.{places_of, AreNarrow}
use Rattle.facet_index.proofs.counted.add_counted.Given as goal

abbrev pub invariant-loop-leaf : goal.invariant-loop-leaf
invariant-loop-leaf l = record {
  places : l.places.items ++ places_of (counted_from (take l.leaf-index l.leaves) (drop l.leaf-index l.leaves))
      ≡ l.initial.places.items ++ places_of (counted_of l.leaves);
  narrow : AreNarrow (counted_from (take l.leaf-index l.leaves) (drop l.leaf-index l.leaves)) → AreNarrow (counted_of l.leaves);
  seen : HasSeen l.seen (take l.leaf-index l.leaves);
}
