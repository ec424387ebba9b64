-- What a machine holds: `C` are changes, `I` what they change, the indexes by their uids.
use Rattle.std.specs.Prelude.{ℕ, ◌+◌, List, [], length}
use Rattle.search_base.specs.declared.outcome.OutcomeRow.{OutcomeRow}
use Rattle.task_queue.specs.declared.task.Task.{Task}
use Rattle.task_queue.specs.Queue.{Tasks}

-- how many tasks have finished; those that wait, in order; what became of the last that finished, the oldest first; and
-- the indexes, as the finished tasks left them
pub record State (C I : Type 0) : Type 0 where
  pub finished : ℕ
  pub queue : List (Task C)
  pub outcomes : List OutcomeRow
  pub indexes : I

-- how many tasks were accepted
abbrev pub accepted : {C I : Type 0} → State C I → ℕ
accepted s = s.finished + length s.queue

-- no task waits
abbrev pub idle : {C I : Type 0} → ℕ → List OutcomeRow → I → State C I
idle finished outcomes i = record { finished = finished; queue = []; outcomes = outcomes; indexes = i }

-- its tasks, without what they change
abbrev pub tasks_of : {C I : Type 0} → State C I → Tasks C
tasks_of s = record { finished = s.finished; queued = s.queue; outcomes = s.outcomes }
