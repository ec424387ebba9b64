-- A run of requests: `step` answers one with a status; after a reply other than 202 the oldest batch runs.
use Rattle.std.specs.Prelude.{◌≡◌, ◌≢◌, ℕ, ◌==◌, List, [], ◌∷◌, ◌++◌, Bool, true, false, Result, if◌then◌else◌}
use Rattle.task_queue.specs.declared.task.Task.{Task}
use Rattle.task_queue.specs.Queue.{keep_last}
use Rattle.queued_changes.specs.State.{State}
use Rattle.queued_changes.specs.Machine.{settle, enqueued}

pub record Step (C I : Type 0) : Type 0 where
  pub status : ℕ
  pub state : State C I

-- a request, and whether it finds no memory
pub record Event (Q : Type 0) : Type 0 where
  pub request : Q
  pub starved : Bool

module _ {C I Q : Type 0} (changed : List ℕ → C → I → Result I ℕ) (step : State C I → Q → Step C I) where
  -- the machine as the reply to a request leaves it
  abbrev pub answered : State C I → Q → Bool → State C I
  answered s q starved = if starved then s else (step s q).state

  -- and as the next request finds it
  abbrev pub followed : State C I → Q → Bool → State C I
  followed s q starved =
      if starved then s
      else if (step s q).status == 202 then (step s q).state
      else settle changed (step s q).state

  abbrev pub after : State C I → List (Event Q) → State C I
  after s [] = s
  after s (e ∷ events) = after (followed s e.request e.starved) events

  -- a run ends so; with the mark the batch behind the last reply did not run
  abbrev pub EndsIn : Bool → State C I → List (Event Q) → State C I → Type 0
  EndsIn false s events t = t ≡ after s events
  EndsIn true s events t =
      (front : List (Event Q)) × (last : Event Q) × (events ≡ front ++ last ∷ [])
      × (t ≡ answered (after s front) last.request last.starved)

  -- the task that a request brings: after a reply 202 the last that waits
  abbrev pub brought : State C I → Q → Bool → List (Task C)
  brought s q starved =
      if starved then []
      else if (step s q).status == 202 then keep_last 1 (step s q).state.queue
      else []

  -- the tasks that requests bring, in order
  abbrev pub tasks_in : State C I → List (Event Q) → List (Task C)
  tasks_in s [] = []
  tasks_in s (e ∷ events) = brought s e.request e.starved ++ tasks_in (followed s e.request e.starved) events

  -- a task of some change is accepted
  abbrev pub Accepts : State C I → State C I → Type 0
  Accepts s new = (uid : List ℕ) × (kind : ℕ) × (change : C) × (new ≡ enqueued changed uid kind change s)

  -- with a reply 202 a change is accepted, and with any other nothing changes
  abbrev pub IsStep : Type 0
  IsStep = (s : State C I) (q : Q)
      → ((step s q).status ≡ 202 → Accepts s (step s q).state) × ((step s q).status ≢ 202 → (step s q).state ≡ s)
