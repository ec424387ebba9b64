use Rattle.std.proofs.Common.{◌≡◌, None}
use Rattle.std.specs.Prelude.{replicate}
use Rattle.index_changes.proofs.batch.no_faults.Given as goal

abbrev pub invariant-loop : goal.invariant-loop
invariant-loop l = l.faults.items ≡ replicate l.counter None
