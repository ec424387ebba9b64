use Rattle.std.proofs.Common.{arith}
use Rattle.query_graph.proofs.ReadingLemmas.{blocks_more}
use Rattle.query_graph.proofs.graph.level_of.Goals as goal

pub loop-from-preserved : goal.loop-from-preserved
loop-from-preserved c =
    rw c.in_ok-add_blocks.ensures (blocks_more c.args.table.now c.args.kept.now c.loop-from.blocks.items _ c.loop-from.from (omega arith) c.loop-from.invariant)
