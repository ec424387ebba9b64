use Rattle.std.proofs.Common.{◌≡◌, ◌++◌, take}
use Rattle.facet_index.specs.Places.{places_of, leaf_facets, AreNarrow}
use Rattle.facet_index.proofs.places.add_leaves.Given as goal

abbrev pub invariant-loop-leaf : goal.invariant-loop-leaf
invariant-loop-leaf l = record {
  places : l.places.items ≡ l.initial.places.items ++ places_of (leaf_facets (take l.leaf-index l.leaves));
  narrow : AreNarrow (leaf_facets (take l.leaf-index l.leaves));
}
