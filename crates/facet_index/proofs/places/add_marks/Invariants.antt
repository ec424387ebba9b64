use Rattle.std.proofs.Common.{◌≡◌, ◌++◌, take}
use Rattle.facet_index.specs.Places.{places_of, mark_facets, AreNarrow}
use Rattle.facet_index.proofs.places.add_marks.Given as goal

abbrev pub invariant-loop-mark : goal.invariant-loop-mark
invariant-loop-mark l = record {
  places : l.places.items ≡ l.initial.places.items ++ places_of (mark_facets (take l.mark-index l.marks));
  narrow : AreNarrow (mark_facets (take l.mark-index l.marks));
}
