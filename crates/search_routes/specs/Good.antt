-- What holds of each machine.
use Rattle.std.specs.Prelude.{◌≤◌}
use Rattle.std.specs.List.{AllByRecursion}
use Rattle.document_changes.specs.Changes.{ChangeData}
use Rattle.index_image.specs.Outcomes.{IsOutcome}
use Rattle.task_queue.specs.declared.task.Task.{Task}
use Rattle.queued_changes.specs.State.{accepted}
use Rattle.named_indexes.specs.Payloads.{Accepts}
use Rattle.search_routes.specs.State.{State, most_changes}

-- the task is that of a good change
abbrev pub MayWait : Task ChangeData → Type 0
MayWait t = Accepts t.uid t.kind t.change

-- No more tasks were accepted than may be, those that wait are of good changes, and what became of the last that
-- finished may stand in an image.
pub record IsFit (s : State) : Type 0 where
  pub fit : accepted s ≤ most_changes
  pub accepts : AllByRecursion MayWait s.queue
  pub outcomes : AllByRecursion IsOutcome s.outcomes
