-- The paths of a condition graph, and the cost of a document: the least sum of a path that it meets.
use Rattle.std.specs.Prelude.{ℕ, zero, suc, ◌+◌, ◌-◌, ◌<◌, ◌==◌, Bool, Option, if◌then◌else◌}
use Rattle.std.specs.Prelude.{List, [], ◌∷◌, map, filter, flat_map}
use Rattle.std.specs.List.{list_all}
use Rattle.search_base.specs.Least.{least}
use Rattle.condition_graph.specs.declared.condition.Condition.{Condition}
use Rattle.condition_graph.specs.declared.graph.ConditionEdge.{ConditionEdge}
use Rattle.condition_graph.specs.EdgesView.{EdgesView}

-- the paths from a node to the last one, each of at most n edges
abbrev pub paths_from : ℕ → ℕ → List ConditionEdge → ℕ → List (List ConditionEdge)
paths_from zero last edges node = if node == last then [] ∷ [] else []
paths_from (suc n) last edges node =
    if node == last then [] ∷ []
    else
    flat_map (λ edge. map (λ path. edge ∷ path) (paths_from n last edges edge.to))
    (filter (λ edge. edge.from == node) edges)

-- the paths from node 0 to the last node. Each edge goes to a greater node, so none has more edges than that node's
-- number
unfoldable pub paths : EdgesView → List (List ConditionEdge)
paths graph = paths_from (graph.nodes - 1) (graph.nodes - 1) graph.edges 0

-- the sum of a path's costs
abbrev pub path_sum : List ConditionEdge → ℕ
path_sum [] = 0
path_sum (edge ∷ path) = edge.cost + path_sum path

-- the document meets each condition of the path
abbrev pub is_path_met : (Condition → Bool) → List ConditionEdge → Bool
is_path_met meets path = list_all (λ edge. meets edge.condition) path

-- the least sum of a path that the document meets, or nothing where there is none
unfoldable pub path_cost : (Condition → Bool) → EdgesView → Option ℕ
path_cost meets graph = least (map path_sum (filter (is_path_met meets) (paths graph)))

-- an edge goes to a greater node, below the number of nodes
pub record IsForward (nodes : ℕ) (edge : ConditionEdge) : Type 0 where
  pub forward : edge.from < edge.to
  pub within : edge.to < nodes
