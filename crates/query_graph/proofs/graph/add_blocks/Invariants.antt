use Rattle.std.proofs.Common.{◌≡◌, ◌+◌, ◌-◌, ◌++◌, flat_map}
use Rattle.search_base.specs.Hits.{numbers}
use Rattle.query_graph.specs.Graph.{placed_choices}
use Rattle.query_graph.proofs.graph.add_blocks.Given as goal

-- the blocks so far and those of more items
abbrev pub invariant-loop-span : goal.invariant-loop-span
invariant-loop-span l =
    l.blocks.items ++ flat_map (placed_choices l.table l.from l.items) (numbers l.span (l.most + 1 - l.span))
    ≡ l.initial.blocks.items ++ flat_map (placed_choices l.table l.from l.items) (numbers 1 l.most)
