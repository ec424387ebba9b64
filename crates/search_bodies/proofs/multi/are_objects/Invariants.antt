use Rattle.std.proofs.Common.{◌≡◌, drop}
use Rattle.serde_json.specs.View.{items_view}
use Rattle.search_bodies.specs.Multi.{are_objects}
use Rattle.search_bodies.proofs.multi.are_objects.Given as goal

-- all are objects where those are that are left
abbrev pub invariant-loop-item : goal.invariant-loop-item
invariant-loop-item l = are_objects (items_view l.items) ≡ are_objects (items_view (drop l.item-index l.items))
