use Rattle.std.proofs.Common.{arith, ◌<◌, ◌^◌}
use Rattle.bench_parts.proofs.StepLemmas.{row-of-words}
use Rattle.bench_parts.proofs.ranks.row_of.Goals as goal

pub returns : goal.returns
returns c = row-of-words c.args.words c.loop-from.edges.items (omega (arith, c.ranges.words.fits)) c.loop-from.invariant
