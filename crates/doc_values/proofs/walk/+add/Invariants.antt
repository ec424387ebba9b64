use Rattle.std.proofs.Common.{◌≡◌, ◌<◌, [], ◌++◌, length, get_or, drop}
use Rattle.std.specs.Option.{IfSome}
use Rattle.serde_json.specs.View.{items_view, members_view}
use Rattle.doc_values.specs.Walk.{path_at, visited, walk_of_members, walk_inside_items}
use Rattle.doc_values.proofs.walk.+add.Given as goal

-- the paths so far and those of what is left are the paths of all, and the path of the member above stays where it was
abbrev pub invariant-add_members-loop-name : goal.invariant-add_members-loop-name
invariant-add_members-loop-name l = record {
  told : l.initial.paths.items ++ visited (walk_of_members (path_at l.initial.paths.items l.above) (members_view l.initial.name-iterator)) ≡ l.paths.items ++ visited (walk_of_members (path_at l.initial.paths.items l.above) (members_view l.name-iterator));
  same : path_at l.paths.items l.above ≡ path_at l.initial.paths.items l.above;
  within : IfSome l.above (λ place. place < length l.paths.items);
}

abbrev pub invariant-add_inside_items-loop-item : goal.invariant-add_inside_items-loop-item
invariant-add_inside_items-loop-item l = record {
  told : l.initial.paths.items ++ visited (walk_inside_items (get_or l.initial.paths.items l.place []) (items_view l.item-items)) ≡ l.paths.items ++ visited (walk_inside_items (get_or l.initial.paths.items l.place []) (items_view (drop l.item-index l.item-items)));
  same : get_or l.paths.items l.place [] ≡ get_or l.initial.paths.items l.place [];
  within : l.place < length l.paths.items;
}
