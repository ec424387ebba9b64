use Rattle.std.proofs.Common.{◌≡◌, ◌+◌, ◌-◌, ◌++◌, flat_map}
use Rattle.search_base.specs.Hits.{numbers}
use Rattle.query_graph.specs.Graph.{level_of}
use Rattle.query_graph.proofs.LevelLemmas.{level_if}
use Rattle.query_graph.proofs.graph.levels_of.Given as goal

-- the levels so far and those to come are the levels
abbrev pub invariant-loop-dropped : goal.invariant-loop-dropped
invariant-loop-dropped l =
    l.graphs.items ++ flat_map (level_if (level_of l.table) l.list) (numbers l.dropped (l.most + 1 - l.dropped)) ≡ flat_map (level_if (level_of l.table) l.list) (numbers 0 (l.most + 1))
