use Rattle.std.proofs.Common.{◌≡◌, ◌++◌, map, drop}
use Rattle.filter_tree.specs.Tree.{trees_of}
use Rattle.filter_tree.specs.View.{view}
use Rattle.row_filter.specs.Attributes.{attributes_among}
use Rattle.row_filter.proofs.attribute_list.+add.Given as goal

-- the names so far and those of what is left are the names of all
abbrev pub invariant-add_attributes_among-loop-member : goal.invariant-add_attributes_among-loop-member
invariant-add_attributes_among-loop-member l =
    l.initial.names.items ++ attributes_among (trees_of (map view l.members)) ≡ l.names.items ++ attributes_among (trees_of (map view (drop l.member-index l.members)))
