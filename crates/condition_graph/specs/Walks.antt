-- What the paths of a condition graph are: edges joined end to end, from node 0 to the last node.
use Rattle.std.specs.Prelude.{◌≡◌, ◌↔◌, Contains, ℕ, ◌-◌, List, [], ◌∷◌}
use Rattle.condition_graph.specs.declared.graph.ConditionEdge.{ConditionEdge}
use Rattle.condition_graph.specs.EdgesView.{EdgesView}
use Rattle.condition_graph.specs.Paths.{paths}

-- the edges join end to end, from a node to the last one
abbrev pub Joins : ℕ → List ConditionEdge → ℕ → List ConditionEdge → Type 0
Joins last edges node [] = node ≡ last
Joins last edges node (edge ∷ path) = Contains edges edge × (edge.from ≡ node) × Joins last edges edge.to path

-- the paths of a graph are the ways to join its edges
abbrev pub AreTheWalks : EdgesView → Type 0
AreTheWalks graph =
    (path : List ConditionEdge) → Contains (paths graph) path ↔ Joins (graph.nodes - 1) graph.edges 0 path
