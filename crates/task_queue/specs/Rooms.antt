-- What holds of every queue.
use Rattle.std.specs.Prelude.{◌≡◌, ◌+◌, ◌<◌, ◌≤◌, ◌^◌, ℕ, List, length}
use Rattle.circular_buffer.specs.Buffer.{Buffer}
use Rattle.search_base.specs.declared.outcome.OutcomeRow.{OutcomeRow}
use Rattle.task_queue.specs.declared.task.Task.{Task}
use Rattle.task_queue.specs.Queue.{AreNumbered, most_queued, most_outcomes}

pub record HasRoom {C : Type 0} (finished : ℕ) (queued : List (Task C)) (outcomes : Buffer OutcomeRow) (most : ℕ) : Type 0 where
  pub few : length queued ≤ most_queued
  pub room : most_queued ≤ most
  pub ring : outcomes.capacity ≡ most_outcomes
  pub short : length outcomes.items ≤ most_outcomes
  pub within : length outcomes.items ≤ finished
  pub numbered : AreNumbered finished queued
  pub last : finished + length queued < 2 ^ 64
