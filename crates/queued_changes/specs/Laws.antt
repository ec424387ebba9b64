-- What users of the machine rely on, whatever changes do.
use Rattle.std.specs.Prelude.{◌≡◌, ◌↔◌, ℕ, ◌+◌, List, [], ◌++◌, length, Bool, Result, IsOk}
use Rattle.task_queue.specs.declared.task.Task.{Task}
use Rattle.queued_changes.specs.State.{State, accepted}
use Rattle.queued_changes.specs.Machine.{row_in, run, settle, run_out, make_room, enqueued, behind, task_of, run_each, reopened}
use Rattle.queued_changes.specs.Run.{Step, Event, after, EndsIn, tasks_in, IsStep}

module _ {C I : Type 0} (changed : List ℕ → C → I → Result I ℕ) where
  -- an outcome is that of a success exactly where the change was made
  abbrev pub OutcomesTell : (List ℕ → ℕ → C → Type 0) → Type 0
  OutcomesTell accepts = (uid : List ℕ) (kind : ℕ) (change : C) (i : I) → accepts uid kind change
      → (row_in (changed uid change i) ≡ 0) ↔ IsOk (changed uid change i)

  abbrev pub SettlingIsRunning : Type 0
  SettlingIsRunning = (s : State C I) → run_out changed (settle changed s) ≡ run_out changed s

  abbrev pub RoomIsRunning : Type 0
  RoomIsRunning = (s : State C I) → run_out changed (make_room changed s) ≡ run_out changed s

  -- a change that is accepted is the last that runs
  abbrev pub AcceptedRunsLast : Type 0
  AcceptedRunsLast = (uid : List ℕ) (kind : ℕ) (change : C) (s : State C I)
      → run_out changed (enqueued changed uid kind change s) ≡ run changed (task_of uid kind change s) [] (run_out changed s)

  abbrev pub AcceptedIsCounted : Type 0
  AcceptedIsCounted = (uid : List ℕ) (kind : ℕ) (change : C) (s : State C I)
      → accepted (enqueued changed uid kind change s) ≡ accepted s + 1

  -- to make room and then to wait is to be accepted
  abbrev pub WaitingIsAccepting : Type 0
  WaitingIsAccepting = (uid : List ℕ) (kind : ℕ) (change : C) (s : State C I)
      → behind (task_of uid kind change (make_room changed s)) (make_room changed s) ≡ enqueued changed uid kind change s

  -- what opening leaves does not hang on the batches
  abbrev pub OpeningRunsEach : Type 0
  OpeningRunsEach = (ts : List (Task C)) (s : State C I) → s.queue ≡ [] → reopened changed ts s ≡ run_each changed ts s

  -- what waits at the end of some requests, once it has run: the tasks that they brought, run in order
  abbrev pub TasksRunInOrder : Type 0 → Type 0
  TasksRunInOrder Q = (step : State C I → Q → Step C I) → IsStep changed step → (s : State C I) (events : List (Event Q))
      → run_out changed (after changed step s events) ≡ run_each changed (tasks_in changed step s events) (run_out changed s)

  -- the same with the mark, and without
  abbrev pub EndRunsInOrder : Type 0 → Type 0
  EndRunsInOrder Q = (step : State C I → Q → Step C I) → IsStep changed step
      → (mark : Bool) (s : State C I) (events : List (Event Q)) (t : State C I) → EndsIn changed step mark s events t
      → run_out changed t ≡ run_each changed (tasks_in changed step s events) (run_out changed s)

  -- the first requests bring the first of these tasks
  abbrev pub TasksAreInOrder : Type 0 → Type 0
  TasksAreInOrder Q = (step : State C I → Q → Step C I) (s : State C I) (front back : List (Event Q))
      → tasks_in changed step s (front ++ back) ≡ tasks_in changed step s front ++ tasks_in changed step (after changed step s front) back

  abbrev pub TasksAreCounted : Type 0 → Type 0
  TasksAreCounted Q = (step : State C I → Q → Step C I) → IsStep changed step → (s : State C I) (events : List (Event Q))
      → accepted (after changed step s events) ≡ accepted s + length (tasks_in changed step s events)
