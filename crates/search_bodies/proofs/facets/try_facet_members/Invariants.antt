use Rattle.std.proofs.Common.{◌≡◌}
use Rattle.serde_json.specs.View.{members_view}
use Rattle.filter_tree.specs.Tree as tree
use Rattle.filter_tree.specs.View.{view as tree_of}
use Rattle.search_bodies.specs.FacetSearches.{facet_tried}
use Rattle.search_bodies.specs.Searches.{given_by}
use Rattle.search_bodies.proofs.facets.try_facet_members.Given as goal

-- what all members come to is what those come to that are left, behind those that are tried
abbrev pub invariant-loop-name : goal.invariant-loop-name
invariant-loop-name l =
    facet_tried (given_by (members_view l.initial.name-iterator)) tree.all ≡ facet_tried (given_by (members_view l.name-iterator)) (tree_of l.filter)
