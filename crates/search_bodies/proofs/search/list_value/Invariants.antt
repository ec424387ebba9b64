use Rattle.std.proofs.Common.{◌≡◌, ◌++◌, map}
use Rattle.serde_json.specs.Data.{string}
use Rattle.serde_json.specs.View.{view}
use Rattle.search_bodies.proofs.search.list_value.Given as goal

-- the items so far, and those of the texts that are left, are all
abbrev pub invariant-loop-item : goal.invariant-loop-item
invariant-loop-item l = map view l.items.items ++ map string l.item-iterator.rest.items ≡ map string l.initial.item-iterator.rest.items
