use Rattle.std.proofs.Common.{◌≡◌, ◌≤◌, length, map, take}
use Rattle.std.specs.Prelude.{vec_len}
use Rattle.std.specs.Vec.{vec_capacity}
use Rattle.task_queue.specs.Queue.{row_of}
use Rattle.named_indexes.specs.Inside.{fault_row}
use Rattle.named_indexes.proofs.changes.outcomes_of.Given as goal

abbrev pub invariant-loop-fault : goal.invariant-loop-fault
invariant-loop-fault l = record {
  rows : map row_of l.outcomes.items ≡ map fault_row (take l.fault-index l.faults);
  many : vec_len l.outcomes ≡ l.fault-index;
  room : length l.faults ≤ vec_capacity l.outcomes;
}
