use Rattle.std.proofs.Common.{◌<◌, length}
use Rattle.posting_sets.proofs.occurrences.rarest.Given as goal

abbrev pub invariant-loop-index : goal.invariant-loop-index
invariant-loop-index l = l.at < length l.lists
