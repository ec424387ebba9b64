-- What becomes of tasks. `changed` is what the change of a task does to the indexes, or the number of the refusal that
-- refuses it.
use Rattle.std.specs.Prelude.{ℕ, suc, zero, ◌+◌, List, [], ◌∷◌, ◌++◌, length, nat_le, Result, Ok, Err, if◌then◌else◌}
use Rattle.search_base.specs.declared.outcome.OutcomeRow.{OutcomeRow}
use Rattle.task_queue.specs.declared.task.Task.{Task}
use Rattle.task_queue.specs.Queue.{batch_len, keep_last, most_outcomes, most_queued}
use Rattle.queued_changes.specs.State.{State, accepted}

-- the indexes after a change: one that is refused leaves them
abbrev pub left_in : {I : Type 0} → Result I ℕ → I → I
left_in (Ok new) old = new
left_in (Err row) old = old

-- what became of a change: 0, or the number of its refusal
abbrev pub row_in : {I : Type 0} → Result I ℕ → ℕ
row_in (Ok new) = 0
row_in (Err row) = row

-- an outcome more, where at most the last 1,000 are kept
abbrev pub noted : List ℕ → ℕ → ℕ → List OutcomeRow → List OutcomeRow
noted uid kind row outcomes = keep_last most_outcomes (outcomes ++ record { uid = uid; kind = kind; row = row } ∷ [])

-- a task behind those that wait
abbrev pub behind : {C I : Type 0} → Task C → State C I → State C I
behind t s = record { finished = s.finished; queue = s.queue ++ t ∷ []; outcomes = s.outcomes; indexes = s.indexes }

-- a task of this uid, kind and change, with the number of the next
abbrev pub task_of : {C I : Type 0} → List ℕ → ℕ → C → State C I → Task C
task_of uid kind change s = record { number = accepted s; uid = uid; kind = kind; change = change }

module _ {C I : Type 0} (changed : List ℕ → C → I → Result I ℕ) where
  -- a task runs, and these wait behind it
  abbrev pub run : Task C → List (Task C) → State C I → State C I
  run t ts s =
      let done = changed t.uid t.change s.indexes in
      record {
        finished = s.finished + 1;
        queue = ts;
        outcomes = noted t.uid t.kind (row_in done) s.outcomes;
        indexes = left_in done s.indexes;
      }

  -- the first so many of these tasks, which wait
  abbrev pub run_first : ℕ → List (Task C) → State C I → State C I
  run_first zero ts s = s
  run_first (suc n) [] s = s
  run_first (suc n) (t ∷ ts) s = run_first n ts (run t ts s)

  -- the tasks of the oldest batch run one by one
  abbrev pub settle : State C I → State C I
  settle s = run_first (batch_len s.queue) s.queue s

  -- all tasks that wait run
  abbrev pub run_out : State C I → State C I
  run_out s = run_first (length s.queue) s.queue s

  -- where 16 tasks wait the oldest batch runs
  abbrev pub make_room : State C I → State C I
  make_room s = if nat_le most_queued (length s.queue) then settle s else s

  -- a change is accepted: its task waits under the number of those accepted before
  abbrev pub enqueued : List ℕ → ℕ → C → State C I → State C I
  enqueued uid kind change s = behind (task_of uid kind change s) (make_room s)

  -- tasks one by one where none waits
  abbrev pub run_each : List (Task C) → State C I → State C I
  run_each [] s = s
  run_each (t ∷ ts) s = run_each ts (run t [] s)

  -- opening: each task comes to wait, with room made for it, and at the end all that wait run
  abbrev pub filled : List (Task C) → State C I → State C I
  filled [] s = s
  filled (t ∷ ts) s = filled ts (behind t (make_room s))

  abbrev pub reopened : List (Task C) → State C I → State C I
  reopened ts s = run_out (filled ts s)
