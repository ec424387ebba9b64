use Rattle.std.proofs.Common.{arith}
use Rattle.plain_rank.specs.Numbers.{number_there}
use Rattle.plain_rank.proofs.LeastSteps.{least_by-end}
use Rattle.plain_rank.proofs.numbers.least_of.Goals as goal

pub returns : goal.returns
returns c = least_by-end (number_there c.args.by_rank c.args.start.now) c.args.places.now c.loop-place.place-index c.loop-place.least _ (omega arith) c.loop-place.invariant
