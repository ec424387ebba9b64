use Rattle.std.proofs.Common.{arith}
use Rattle.query_graph.specs.Graph.{placed_choices}
use Rattle.query_graph.proofs.LevelLemmas.{numbers_more}
use Rattle.query_graph.proofs.graph.add_blocks.Goals as goal

pub loop-span-preserved : goal.loop-span-preserved
loop-span-preserved c =
    rw (c.in_ok-place_all.ensures, c.in_ok-part.ensures)
    (numbers_more (placed_choices c.args.table.now c.args.from c.args.items.now) c.loop-span.blocks.items _ c.loop-span.span c.min-most.result (omega arith) c.loop-span.invariant)
