-- What a condition graph promises.
use Rattle.std.specs.Prelude.{ℕ, ◌≡◌, ◌<◌, ◌≤◌, ◌^◌, Bool, true, false, List}
use Rattle.std.specs.List.{AllByRecursion}
use Rattle.search_base.specs.declared.document.Place.{Place}
use Rattle.search_base.specs.declared.rule.Rule.{Rule}
use Rattle.search_base.specs.declared.rule.Rule.TheVariants.{Words, Proximity, Field, Position, Inexact}
use Rattle.search_base.specs.GraphView.{LevelView}
use Rattle.search_base.specs.Graphs.{IsTerm}
use Rattle.search_base.specs.Sums.{least_cost}
use Rattle.condition_graph.specs.declared.condition.Condition.{Condition}
use Rattle.condition_graph.specs.declared.condition.Condition.TheVariants.{Free, Occurs, Pair, AtRank, AtBucket}
use Rattle.condition_graph.specs.EdgesView.{EdgesView}
use Rattle.condition_graph.specs.Meets.{meets, IsRanked}
use Rattle.condition_graph.specs.Paths.{paths, path_sum, path_cost, IsForward}

-- the rule gives a cost that is a least sum over readings, or is the one on words
abbrev pub has_graph : Rule → Bool
has_graph Words = true
has_graph Proximity = true
has_graph Field = true
has_graph Position = true
has_graph Inexact = true
has_graph _ = false

-- the same, and the rule costs nothing between two blocks
abbrev pub is_along : Rule → Bool
is_along Words = true
is_along Field = true
is_along Position = true
is_along Inexact = true
is_along _ = false

-- the terms of a condition are such as a query has, its pair costs are 0 to 6, and its buckets those of positions
abbrev pub IsCondition : Condition → Type 0
IsCondition Free = Unit {0}
IsCondition (Occurs term) = IsTerm term
IsCondition (Pair left right right_prefix cost) = cost < 7
IsCondition (AtRank term rank) = IsTerm term
IsCondition (AtBucket term at) = IsTerm term × (at ≤ 20)

-- each edge goes to a greater node, and no sum is too great for a cost
pub record IsConditionGraph (graph : EdgesView) : Type 0 where
  pub some : 0 < graph.nodes
  pub forward : AllByRecursion (IsForward graph.nodes) graph.edges
  pub conditions : AllByRecursion (λ edge. IsCondition edge.condition) graph.edges
  pub small : AllByRecursion (λ path. path_sum path < 2 ^ 32) (paths graph)

-- for each document whose ranks are below `ranks`, the least cost of a path that it meets is the least sum of the
-- level's readings that match it, and there is such a path exactly where a reading matches
abbrev pub GivesLeastCost : Rule → ℕ → LevelView → EdgesView → Type 0
GivesLeastCost rule ranks level graph =
    (places : List Place) → AllByRecursion (IsRanked ranks) places
    → path_cost (meets places) graph ≡ least_cost rule places level
