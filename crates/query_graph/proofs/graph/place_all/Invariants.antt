use Rattle.std.proofs.Common.{◌≡◌, ◌++◌, map}
use Rattle.query_graph.specs.Graph.{placed_at}
use Rattle.query_graph.proofs.graph.place_all.Given as goal

-- the blocks so far and those to come are the blocks
abbrev pub invariant-loop-block : goal.invariant-loop-block
invariant-loop-block l =
    l.blocks.items ++ map (placed_at l.from l.span) l.block-iterator.rest.items ≡ l.initial.blocks.items ++ map (placed_at l.from l.span) l.initial.block-iterator.rest.items
