-- The edges for one block: one for each way in which it can be met, with the cost of that way.
use Rattle.std.specs.Prelude.{ℕ, ◌+◌, ◌*◌, List, [], ◌∷◌, map, flat_map}
use Rattle.std.specs.List.{range_with_len}
use Rattle.search_base.specs.declared.query.PlacedBlock.{PlacedBlock}
use Rattle.search_base.specs.declared.rule.Rule.{Rule}
use Rattle.search_base.specs.declared.rule.Rule.TheVariants.{Field, Position, Inexact}
use Rattle.search_base.specs.GraphView.{LevelView}
use Rattle.condition_graph.specs.EdgesView.{EdgesView}
use Rattle.search_base.specs.BlockCosts.{inexact_of}
use Rattle.condition_graph.specs.declared.condition.Condition.{Condition}
use Rattle.condition_graph.specs.declared.condition.Condition.TheVariants.{Occurs, AtRank, AtBucket}
use Rattle.condition_graph.specs.declared.graph.ConditionEdge.{ConditionEdge}

-- an edge along a block
abbrev pub along : PlacedBlock → Condition → ℕ → ConditionEdge
along placed condition cost = record { from = placed.from; to = placed.to; condition = condition; cost = cost }

-- one more than the greatest bucket of a position
abbrev pub buckets : ℕ
buckets = 21

-- the edge for standing in a path of a rank
abbrev pub rank_edge : PlacedBlock → ℕ → ConditionEdge
rank_edge placed rank = along placed (AtRank placed.block.term rank) (placed.block.span * rank)

-- an edge for each of the first n ranks
abbrev pub rank_edges : PlacedBlock → ℕ → List ConditionEdge
rank_edges placed n = map (rank_edge placed) (range_with_len 0 n)

-- the edge for standing at a place of a bucket
abbrev pub bucket_edge : PlacedBlock → ℕ → ConditionEdge
bucket_edge placed at = along placed (AtBucket placed.block.term at) (placed.block.span * at)

-- an edge for each of the first n buckets
abbrev pub bucket_edges : PlacedBlock → ℕ → List ConditionEdge
bucket_edges placed n = map (bucket_edge placed) (range_with_len 0 n)

-- the edges for one block: under the rules on field and position one for each rank or bucket, else one
abbrev pub block_edges : Rule → ℕ → PlacedBlock → List ConditionEdge
block_edges Field ranks placed = rank_edges placed ranks
block_edges Position ranks placed = bucket_edges placed buckets
block_edges Inexact ranks placed =
    along placed (Occurs placed.block.term) (placed.block.span * inexact_of placed.block.kind) ∷ []
block_edges _ ranks placed = along placed (Occurs placed.block.term) 0 ∷ []

-- the graph whose nodes are the places between a level's items, with the edges for its blocks
abbrev pub graph_along : Rule → ℕ → LevelView → EdgesView
graph_along rule ranks level =
    record { nodes = level.items + 1; edges = flat_map (block_edges rule ranks) level.blocks }
