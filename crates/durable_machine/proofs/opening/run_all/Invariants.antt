use Rattle.std.proofs.Common.{◌≡◌, ◌+◌, ◌≤◌, ℕ, length}
use Rattle.change_journal.specs.Format.{shut}
use Rattle.change_journal.specs.Opens.{behind}
use Rattle.queued_changes.specs.State.{accepted}
use Rattle.queued_changes.specs.Machine.{run_out}
use Rattle.queued_changes.specs.Needs.{fill_need}
use Rattle.named_indexes.specs.Changes.{changed}
use Rattle.named_indexes.specs.Needs.{need}
use Rattle.durable_machine.specs.Held.{run_from, tasks_from}
use Rattle.durable_machine.specs.Reopened.{AllBelow}
use Rattle.durable_machine.proofs.opening.run_all.Given as goal

-- what is left gives what all gave
abbrev pub invariant-loop-change : goal.invariant-loop-change
invariant-loop-change g l = record {
  run : (gate : ℕ) → run_from l.disk (run_out changed l.fn.machine) (behind l.fn.changes.items (shut gate)) ≡ run_from l.disk (run_out changed l.machine) (behind l.change-iterator.rest.items (shut gate));
  below : (gate : ℕ) → AllBelow gate (behind l.fn.changes.items (shut gate)) → AllBelow gate (behind l.change-iterator.rest.items (shut gate));
  counted : accepted l.machine + length l.change-iterator.rest.items ≡ accepted l.fn.machine + length l.fn.changes.items;
  fetched : (gate : ℕ) → l.fetches + fill_need changed need (tasks_from (accepted l.machine) (behind l.change-iterator.rest.items (shut gate))) l.machine
      ≤ l.fn.fetches + fill_need changed need (tasks_from (accepted l.fn.machine) (behind l.fn.changes.items (shut gate))) l.fn.machine;
}
