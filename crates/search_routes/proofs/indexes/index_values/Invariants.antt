use Rattle.std.proofs.Common.{◌≡◌, ◌++◌, map, false}
use Rattle.serde_json.specs.View.{view, items_view}
use Rattle.serde_json.specs.Written.{items_have_float}
use Rattle.search_routes.specs.Machine.{slice, index_rows}
use Rattle.search_routes.proofs.indexes.index_values.Given as goal

-- the rows so far, with those that are taken of what is left, are those that are taken of all
abbrev pub invariant-loop-uid : goal.invariant-loop-uid
invariant-loop-uid l = record {
  rows : map view l.values.items ++ slice l.left.skip l.left.room (index_rows l.uid-iterator)
      ≡ slice l.offset l.limit (index_rows l.initial.uid-iterator);
  whole : items_have_float (items_view l.values.items) ≡ false;
}
