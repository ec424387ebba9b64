use Rattle.std.proofs.Common.{◌≡◌, drop}
use Rattle.std.specs.Option.{option_copied}
use Rattle.serde_json.specs.View.{items_view, members_view}
use Rattle.doc_values.specs.Walk.{first_broken, walk_of_members, walk_inside_items}
use Rattle.doc_values.proofs.floats.+check.Given as goal

-- the answer for all is the answer for those that are left
abbrev pub invariant-check_members-loop-name : goal.invariant-check_members-loop-name
invariant-check_members-loop-name l =
    first_broken (walk_of_members (option_copied l.above) (members_view l.initial.name-iterator)) ≡ first_broken (walk_of_members (option_copied l.above) (members_view l.name-iterator))

abbrev pub invariant-check_inside_items-loop-item : goal.invariant-check_inside_items-loop-item
invariant-check_inside_items-loop-item l =
    first_broken (walk_inside_items l.path (items_view l.item-items)) ≡ first_broken (walk_inside_items l.path (items_view (drop l.item-index l.item-items)))
