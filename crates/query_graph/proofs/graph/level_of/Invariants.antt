use Rattle.std.proofs.Common.{◌≡◌, ◌++◌, drop}
use Rattle.query_graph.specs.Graph.{blocks_from}
use Rattle.query_graph.proofs.graph.level_of.Given as goal

-- the blocks so far and those that begin at later places are the level's
abbrev pub invariant-loop-from : goal.invariant-loop-from
invariant-loop-from l = l.blocks.items ++ blocks_from l.table l.from (drop l.from l.kept) ≡ blocks_from l.table 0 l.kept
