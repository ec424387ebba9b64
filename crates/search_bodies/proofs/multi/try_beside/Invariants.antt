use Rattle.std.proofs.Common.{◌≡◌, Some}
use Rattle.serde_json.specs.View.{members_view}
use Rattle.filter_tree.specs.Tree as tree
use Rattle.filter_tree.specs.View.{view as tree_of}
use Rattle.search_bodies.specs.Multi.{given_beside}
use Rattle.search_bodies.specs.Searches.{tried}
use Rattle.search_bodies.proofs.multi.try_beside.Given as goal

-- what all members come to is what those come to that are left, behind those that are tried
abbrev pub invariant-loop-name : goal.invariant-loop-name
invariant-loop-name l =
    tried (given_beside (Some (members_view l.initial.name-iterator))) tree.all ≡ tried (given_beside (Some (members_view l.name-iterator))) (tree_of l.filter)
