use Rattle.std.proofs.Common.{arith}
use Rattle.search_bodies.proofs.Colons.{parted}
use Rattle.search_bodies.proofs.formats.at_last_colon.Goals as goal

pub returns : goal.returns
returns c = parted 58 c.args.entry.now _ c.rsplit_once.ensures.cases (omega arith)
