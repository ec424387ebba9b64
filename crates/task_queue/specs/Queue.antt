-- The tasks that wait, and what became of the last ones that ran.
use Rattle.std.specs.Prelude.{◌≡◌, ℕ, suc, ◌+◌, ◌-◌, ◌==◌, ◌&&◌, nat_le, nat_lt, List, [], ◌∷◌, ◌++◌, length, drop, slice_get, Bool, if◌then◌else◌, bytes_eq, Option, None}
use Rattle.std.specs.Option.{option_map}
use Rattle.task_queue.specs.declared.task.Task.{Task}
use Rattle.task_queue.specs.declared.task.TaskView.{TaskView}
use Rattle.task_queue.specs.declared.task.TaskState.{TaskState}
use Rattle.task_queue.specs.declared.task.TaskState.TheVariants as state
use Rattle.task_queue.specs.declared.outcome.Outcome.{Outcome}
use Rattle.task_queue.specs.declared.outcome.Outcome.TheVariants.{Succeeded, Failed}
use Rattle.search_base.specs.declared.outcome.OutcomeRow.{OutcomeRow}

-- the tasks that wait, in order, and the outcomes of the last tasks before them, the oldest first
pub record Tasks (C : Type 0) : Type 0 where
  pub finished : ℕ
  pub queued : List (Task C)
  pub outcomes : List OutcomeRow

abbrev pub most_queued : ℕ
most_queued = 16

abbrev pub most_outcomes : ℕ
most_outcomes = 1000

abbrev pub is_full : {C : Type 0} → Tasks C → Bool
is_full q = nat_le most_queued (length q.queued)

abbrev pub no_tasks : {C : Type 0} → ℕ → Tasks C
no_tasks finished = record { finished = finished; queued = []; outcomes = [] }

-- a task behind the others
abbrev pub joined : {C : Type 0} → Task C → Tasks C → Tasks C
joined t q = record { finished = q.finished; queued = q.queued ++ t ∷ []; outcomes = q.outcomes }

-- numbers without a gap, from this one on
abbrev pub AreNumbered : {C : Type 0} → ℕ → List (Task C) → Type 0
AreNumbered from [] = Unit {0}
AreNumbered from (t ∷ ts) = (t.number ≡ from) × AreNumbered (from + 1) ts

-- ---- the oldest batch

-- the kinds of which a batch may have several: 3 replace, 4 update, 5 remove
abbrev pub is_joined : ℕ → Bool
is_joined kind = nat_le 3 kind && nat_le kind 5

abbrev pub joins : {C : Type 0} → Task C → Task C → Bool
joins first t = bytes_eq t.uid first.uid && t.kind == first.kind

-- how many of these have the uid and the kind of the first one, up to the first that has not
abbrev pub run_of : {C : Type 0} → Task C → List (Task C) → ℕ
run_of first [] = 0
run_of first (t ∷ ts) = if joins first t then suc (run_of first ts) else 0

abbrev pub batch_len : {C : Type 0} → List (Task C) → ℕ
batch_len [] = 0
batch_len (t ∷ ts) = if is_joined t.kind then suc (run_of t ts) else 1

-- ---- what became of tasks

-- the number of the refusal, or 0
abbrev pub row_of : Outcome → ℕ
row_of Succeeded = 0
row_of (Failed row) = row

abbrev pub keep_last : {A : Type 0} → ℕ → List A → List A
keep_last n xs = drop (length xs - n) xs

-- the oldest task leaves the queue, and its outcome is kept; where there are then more than may be, the first is dropped
abbrev pub done_from : {C : Type 0} → ℕ → Tasks C → List (Task C) → Tasks C
done_from row q [] = q
done_from row q (t ∷ ts) = record {
  finished = q.finished + 1;
  queued = ts;
  outcomes = keep_last most_outcomes (q.outcomes ++ record { uid = t.uid; kind = t.kind; row = row } ∷ []);
}

abbrev pub one_done : {C : Type 0} → ℕ → Tasks C → Tasks C
one_done row q = done_from row q q.queued

abbrev pub all_done : {C : Type 0} → List ℕ → Tasks C → Tasks C
all_done [] q = q
all_done (row ∷ rows) q = all_done rows (one_done row q)

-- ---- what is told of a task

pub record Shown : Type 0 where
  pub number : ℕ
  pub uid : List ℕ
  pub kind : ℕ
  pub state : TaskState

abbrev pub shown : TaskView → Shown
shown v = record { number = v.number; uid = v.uid.now; kind = v.kind; state = v.state }

abbrev pub state_of : ℕ → TaskState
state_of row = if row == 0 then state.Succeeded else state.Failed row

abbrev pub queued_shown : {C : Type 0} → Task C → Shown
queued_shown t = record { number = t.number; uid = t.uid; kind = t.kind; state = state.Enqueued }

abbrev pub outcome_shown : ℕ → OutcomeRow → Shown
outcome_shown number o = record { number = number; uid = o.uid; kind = o.kind; state = state_of o.row }

-- the item that stands so many places before the last
abbrev pub from_end : {A : Type 0} → ℕ → List A → Option A
from_end k xs = if nat_lt k (length xs) then slice_get xs (length xs - k - 1) else None

-- the last outcome is that of the task numbered one below the number of finished tasks
abbrev pub found : {C : Type 0} → ℕ → Tasks C → Option Shown
found number q =
    if nat_lt number q.finished then option_map (outcome_shown number) (from_end (q.finished - number - 1) q.outcomes)
    else option_map queued_shown (slice_get q.queued (number - q.finished))
