use Rattle.std.proofs.Common.{◌≡◌, ◌++◌, drop}
use Rattle.serde_json.specs.View.{items_view}
use Rattle.doc_values.specs.Leaves.{leaves_of_items}
use Rattle.doc_values.proofs.rows.+leaves.Given as goal

-- the leaves so far and those of what is left are the leaves of all
abbrev pub invariant-add_leaves_of_items-loop-item : goal.invariant-add_leaves_of_items-loop-item
invariant-add_leaves_of_items-loop-item l =
    l.initial.leaves.items ++ leaves_of_items (items_view l.item-items) ≡ l.leaves.items ++ leaves_of_items (items_view (drop l.item-index l.item-items))
