-- The state that the bytes of two disks stand for: that of the active image, and after it the tasks of the journal, run
-- one after the other.
use Rattle.std.specs.Prelude.{ℕ, ◌+◌, List, [], ◌∷◌, Option, Some, None, Result, Ok, Err}
use Rattle.change_payloads.specs.Change.{Spot as PayloadSpot}
use Rattle.change_journal.specs.Format.{Walk, shut, broken, entry, Spot, Stored, stored}
use Rattle.document_changes.specs.Changes.{ChangeData}
use Rattle.task_queue.specs.declared.task.Task.{Task}
use Rattle.queued_changes.specs.Needs.{fill_need}
use Rattle.named_indexes.specs.Changes.{changed}
use Rattle.named_indexes.specs.Needs.{need}
use Rattle.search_routes.specs.State.{State, empty_state}
use Rattle.search_routes.specs.Images.{state_of, image_need}
use Rattle.search_routes.specs.Redo.{redone, task_again}

-- damage inside the payload that stands at a place of a disk
abbrev pub damage_in : ℕ → ℕ → PayloadSpot → Spot
damage_in disk at spot = record { disk = disk; place = at + spot.place; found = spot.found }

abbrev pub if_redone : ℕ → ℕ → Result State PayloadSpot → (State → Result State Spot) → Result State Spot
if_redone disk at (Ok s) rest = rest s
if_redone disk at (Err spot) rest = Err (damage_in disk at spot)

-- the state after the tasks of a journal, or the first payload that is damaged
abbrev pub run_from : ℕ → State → Walk → Result State Spot
run_from disk s (shut gate) = Ok s
run_from disk s (broken place) = Ok s
run_from disk s (entry at bytes records) = if_redone disk at (redone s bytes) (λ t. run_from disk t records)

-- a machine that holds nothing where no disk is open
abbrev pub held_by : Option Stored → Result State Spot
held_by None = Ok empty_state
held_by (Some s) = run_from s.active (state_of s.state) s.records

abbrev pub held_in : Result (Option Stored) Spot → Result State Spot
held_in (Ok s) = held_by s
held_in (Err spot) = Err spot

-- the state, or the first byte that is damaged
unfoldable pub held : List ℕ → List ℕ → Result State Spot
held a b = held_in (stored a b)

-- ---- how many stored documents opening reads: those of the image, and what each batch of the journal's tasks needs

-- this task and those behind it, or none from a payload on that is damaged
abbrev pub up_to_damage : Result (Task ChangeData) PayloadSpot → List (Task ChangeData) → List (Task ChangeData)
up_to_damage (Ok t) ts = t ∷ ts
up_to_damage (Err spot) ts = []

-- the tasks of a journal, the first with this number, up to the first payload that is damaged
abbrev pub tasks_from : ℕ → Walk → List (Task ChangeData)
tasks_from number (shut gate) = []
tasks_from number (broken place) = []
tasks_from number (entry at bytes records) = up_to_damage (task_again number bytes) (tasks_from (number + 1) records)

abbrev pub need_by : Option Stored → ℕ
need_by None = 0
need_by (Some s) = image_need s.state
    + fill_need changed need (tasks_from s.state.changes s.records) (state_of s.state)

abbrev pub need_in : Result (Option Stored) Spot → ℕ
need_in (Ok s) = need_by s
need_in (Err spot) = 0

unfoldable pub opening_need : List ℕ → List ℕ → ℕ
opening_need a b = need_in (stored a b)
