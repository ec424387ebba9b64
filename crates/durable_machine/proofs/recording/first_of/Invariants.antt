use Rattle.std.proofs.Common.{◌≡◌, take}
use Rattle.durable_machine.specs.Recorded.{AreTasks}
use Rattle.durable_machine.proofs.recording.first_of.Given as goal

abbrev pub invariant-loop-task : goal.invariant-loop-task
invariant-loop-task l = record {
  number : l.first.number ≡ l.machine.finished;
  tasks : AreTasks l.machine.finished l.first.payloads (take l.task-index l.machine.queue);
}
