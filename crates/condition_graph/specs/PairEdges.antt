-- The graph of a level whose nodes know the last block: for each block a node before it and a node after it.
use Rattle.std.specs.Prelude.{ℕ, ◌+◌, ◌-◌, ◌*◌, ◌==◌, Bool, List, [], ◌∷◌, ◌++◌, map, flat_map, length, if◌then◌else◌}
use Rattle.std.specs.List.{range_with_len, enumerate_from}
use Rattle.search_base.specs.declared.query.PlacedBlock.{PlacedBlock}
use Rattle.search_base.specs.GraphView.{LevelView}
use Rattle.search_base.specs.PairCost.{first_word, last_word}
use Rattle.search_base.specs.Readings.{blocks_from}
use Rattle.condition_graph.specs.declared.condition.Condition.TheVariants.{Free, Occurs, Pair}
use Rattle.condition_graph.specs.declared.graph.ConditionEdge.{ConditionEdge}
use Rattle.condition_graph.specs.EdgesView.{EdgesView}

-- the blocks of a level, by the places where they begin
abbrev pub in_order : ℕ → List PlacedBlock → List PlacedBlock
in_order items blocks = flat_map (blocks_from blocks) (range_with_len 0 items)

-- the nodes before and after the i-th block
abbrev pub before : ℕ → ℕ
before i = 2 * i + 1

abbrev pub after : ℕ → ℕ
after i = 2 * i + 2

-- the edge that each document may take
abbrev pub free_edge : ℕ → ℕ → ℕ → ConditionEdge
free_edge from to cost = record { from = from; to = to; condition = Free; cost = cost }

-- the edge that a document may take where the two words have this pair cost in it
abbrev pub cost_edge : ℕ → ℕ → List ℕ → List ℕ → Bool → ℕ → ConditionEdge
cost_edge from to left right prefix cost =
    record { from = from; to = to; condition = Pair left right prefix cost; cost = cost }

-- the pair costs from 0 to 6 have edges of their own
abbrev pub pair_costs : ℕ
pair_costs = 7

-- an edge for each pair cost of the two words, and one that each document may take
abbrev pub cost_edges : ℕ → ℕ → List ℕ → List ℕ → Bool → List ConditionEdge
cost_edges from to left right prefix =
    map (cost_edge from to left right prefix) (range_with_len 0 pair_costs) ++ free_edge from to pair_costs ∷ []

-- the edges from the i-th block to the j-th, where that begins at its end
abbrev pub pair_edges : ℕ → PlacedBlock → ℕ → PlacedBlock → List ConditionEdge
pair_edges i left j right =
    if right.from == left.to
    then
    cost_edges (after i) (before j)
    (last_word left.block.term.words) (first_word right.block.term.words) right.block.term.prefix
    else []

-- the edge from the first node to the i-th block, where that begins at the first place
abbrev pub start_edges : ℕ → PlacedBlock → List ConditionEdge
start_edges i placed = if placed.from == 0 then free_edge 0 (before i) 0 ∷ [] else []

-- the edge along the i-th block
abbrev pub own_edge : ℕ → PlacedBlock → ConditionEdge
own_edge i placed =
    record { from = before i; to = after i; condition = Occurs placed.block.term; cost = placed.block.span - 1 }

-- the edge from the i-th block to the last node, where the block ends at the last place
abbrev pub end_edges : ℕ → ℕ → ℕ → PlacedBlock → List ConditionEdge
end_edges items last i placed = if placed.to == items then free_edge (after i) last 0 ∷ [] else []

-- the edges to the i-th block, along it and from it
abbrev pub edges_at : ℕ → List PlacedBlock → ℕ × PlacedBlock → List ConditionEdge
edges_at items blocks (i, placed) =
    start_edges i placed
    ++ (own_edge i placed
    ∷ (end_edges items (before (length blocks)) i placed
    ++ flat_map (λ (j, next). pair_edges i placed j next) (enumerate_from 0 blocks)))

-- the first node is before all blocks, and the last behind them
abbrev pub graph_of_pairs : LevelView → EdgesView
graph_of_pairs level =
    let blocks = in_order level.items level.blocks in
    record {
      nodes = before (length blocks) + 1;
      edges = flat_map (edges_at level.items blocks) (enumerate_from 0 blocks);
    }
