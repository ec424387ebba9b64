use Rattle.std.proofs.Common.{length}
use Rattle.near_words.proofs.ReadLemmas.{IsReading}
use Rattle.near_words.proofs.by_document.read.Given as goal

abbrev pub invariant-loop-entry : goal.invariant-loop-entry
invariant-loop-entry l = IsReading l.id.0 l.fn.run.items l.fn.left l.run.items l.left

abbrev pub decreases-loop-entry : goal.decreases-loop-entry
decreases-loop-entry l = length l.left
