-- A task that was recorded, accepted again.
use Rattle.std.specs.Prelude.{◌≡◌, ℕ, List, [], nat_lt, Result, Ok, Err, if◌then◌else◌}
use Rattle.change_payloads.specs.Change.{Spot}
use Rattle.change_payloads.specs.declared.fault.ImageFault.{ImageFault}
use Rattle.change_payloads.specs.declared.fault.ImageFault.TheVariants.{Damaged, NoMemory}
use Rattle.document_changes.specs.Changes.{ChangeData}
use Rattle.search_base.specs.Trying.{◌>>=◌}
use Rattle.task_queue.specs.declared.task.Task.{Task}
use Rattle.queued_changes.specs.State.{accepted}
use Rattle.queued_changes.specs.Machine.{run}
use Rattle.named_indexes.specs.Changes.{changed}
use Rattle.named_indexes.specs.Payloads.{Records, recorded_in, first_byte}
use Rattle.search_routes.specs.State.{State, most_changes}
use Rattle.search_routes.specs.Machine.{numbered}

-- the task of the change that a payload spells, under this number, or where the payload is damaged; past the limit it
-- is so at its first byte
abbrev pub task_again : ℕ → List ℕ → Result (Task ChangeData) Spot
task_again number bytes = do
  change ← recorded_in bytes
  if nat_lt number most_changes then Ok (numbered number change) else Err (first_byte bytes)

-- the state after that task has run, where none waits
unfoldable pub redone : State → List ℕ → Result State Spot
redone s bytes = do
  t ← task_again (accepted s) bytes
  Ok (run changed t [] s)

-- what records the change of a task is read again as this task
abbrev pub IsReadAgain : Task ChangeData → Type 0
IsReadAgain t = (bytes : List ℕ) → Records t.change bytes → task_again t.number bytes ≡ Ok t

-- ---- what the code does

-- the task was read, or the payload is damaged, unless memory was wanting
abbrev pub ReadsTask : Result (Task ChangeData) ImageFault → Result (Task ChangeData) Spot → Type 0
ReadsTask (Ok t) defined = defined ≡ Ok t
ReadsTask (Err (Damaged place found)) defined = defined ≡ Err (record { place = place; found = found })
ReadsTask (Err NoMemory) defined = Unit {0}
