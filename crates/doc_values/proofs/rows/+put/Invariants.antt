use Rattle.std.proofs.Common.{◌≡◌, ℕ, List, ◌++◌, drop}
use Rattle.std.specs.Option.{option_copied}
use Rattle.serde_json.specs.View.{items_view, members_view}
use Rattle.doc_values.specs.Walk.{walk_of_members, walk_inside_items}
use Rattle.doc_values.specs.Leaves.{found_at}
use Rattle.doc_values.specs.Grouped.{values_at}
use Rattle.doc_values.proofs.rows.+put.Given as goal

-- at each path, the values so far and those of what is left are the values of all
abbrev pub invariant-put_members-loop-name : goal.invariant-put_members-loop-name
invariant-put_members-loop-name l = (path : List ℕ) →
    values_at l.initial.values path ++ found_at path (walk_of_members (option_copied l.above) (members_view l.initial.name-iterator)) ≡ values_at l.values path ++ found_at path (walk_of_members (option_copied l.above) (members_view l.name-iterator))

abbrev pub invariant-put_inside_items-loop-item : goal.invariant-put_inside_items-loop-item
invariant-put_inside_items-loop-item l = (path : List ℕ) →
    values_at l.initial.values path ++ found_at path (walk_inside_items l.path (items_view l.item-items)) ≡ values_at l.values path ++ found_at path (walk_inside_items l.path (items_view (drop l.item-index l.item-items)))
