use Rattle.std.proofs.Common.{length}
use Rattle.filter_machine.proofs.scan.«+starts».Given as goal

abbrev pub decreases-starts : goal.decreases-starts
decreases-starts l = length l.word.now
