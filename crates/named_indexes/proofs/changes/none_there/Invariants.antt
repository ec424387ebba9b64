use Rattle.std.proofs.Common.{◌≡◌, map}
use Rattle.std.specs.Prelude.{replicate}
use Rattle.task_queue.specs.Queue.{row_of}
use Rattle.named_indexes.proofs.changes.none_there.Given as goal

abbrev pub invariant-loop : goal.invariant-loop
invariant-loop l = map row_of l.outcomes.items ≡ replicate l.counter 23
