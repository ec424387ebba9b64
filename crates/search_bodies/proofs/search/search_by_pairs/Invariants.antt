use Rattle.std.proofs.Common.{◌≡◌, drop, map}
use Rattle.serde_json.specs.Data.{no_members}
use Rattle.serde_json.specs.View.{members_view}
use Rattle.filter_tree.specs.Tree as tree
use Rattle.filter_tree.specs.View.{view as tree_of}
use Rattle.request_routes.specs.Held.{pair_of}
use Rattle.search_bodies.specs.Searches.{given_as, tried, with_given}
use Rattle.search_bodies.proofs.search.search_by_pairs.Given as goal

-- what all pairs come to is what those come to that are left, behind those that are read; and so with the object
abbrev pub invariant-loop-pair : goal.invariant-loop-pair
invariant-loop-pair l = record {
  filter : tried (map given_as (map pair_of l.pairs)) tree.all ≡ tried (map given_as (map pair_of (drop l.pair-index l.pairs))) (tree_of l.filter);
  object : with_given (map given_as (map pair_of l.pairs)) no_members ≡ with_given (map given_as (map pair_of (drop l.pair-index l.pairs))) (members_view l.members.entries);
}
