-- What opening finds, and what running the tasks of a journal again answers.
use Rattle.std.specs.Prelude.{◌≡◌, ◌≢◌, ◌⊎◌, ℕ, ◌+◌, ◌-◌, ◌<◌, ◌≤◌, ◌^◌, length, None, Result, Ok, Err}
use Rattle.change_payloads.specs.Change.{Spot as PayloadSpot}
use Rattle.change_journal.specs.Format.{Walk, shut, broken, entry, Spot}
use Rattle.change_journal.specs.declared.opening.Opened.{Opened}
use Rattle.change_journal.specs.declared.opening.JournalFault.{JournalFault}
use Rattle.change_journal.specs.declared.opening.JournalFault.TheVariants.{DiskFault, Damaged, NoMemory}
use Rattle.document_changes.specs.Changes.{ChangeData}
use Rattle.task_queue.specs.declared.task.Task.{Task}
use Rattle.search_routes.specs.Needs.{room_need}
use Rattle.search_routes.specs.State.{State}
use Rattle.durable_machine.specs.declared.machine.DurableMachine.{DurableMachine}

-- no disk was open, or the image is not of version 2 and the generation is not the last
abbrev pub IsOld : Opened → Type 0
IsOld o = (o.image ≡ None) ⊎ ((o.version ≢ 2) × (o.journal.generation < 2 ^ 64 - 1))

-- a disk was open, and the image is of version 2 or the generation is the last
abbrev pub IsCurrent : Opened → Type 0
IsCurrent o = (o.image ≢ None) × ((o.version ≡ 2) ⊎ (o.journal.generation ≡ 2 ^ 64 - 1))

-- each payload ends below a gate
abbrev pub AllBelow : ℕ → Walk → Type 0
AllBelow gate (shut at) = Unit {0}
AllBelow gate (broken place) = Unit {0}
AllBelow gate (entry at bytes records) = (at + length bytes ≤ gate) × AllBelow gate records

-- why a machine was not made again: the damage, unless memory was wanting
abbrev pub IsDamage : JournalFault → Result State Spot → Type 0
IsDamage (Damaged disk place found) run = run ≡ Err (record { disk = disk; place = place; found = found })
IsDamage NoMemory run = Unit {0}
IsDamage DiskFault run = ⊥

abbrev pub IsRun : Result (Unit {0}) JournalFault → Result State Spot → State → Type 0
IsRun (Ok u) run new = run ≡ Ok new
IsRun (Err fault) run new = IsDamage fault run

abbrev pub IsMade : Result State JournalFault → Result State Spot → Type 0
IsMade (Ok machine) run = run ≡ Ok machine
IsMade (Err fault) run = IsDamage fault run

abbrev pub IsHeld : Result DurableMachine JournalFault → Result State Spot → Type 0
IsHeld (Ok made) run = run ≡ Ok made.machine
IsHeld (Err fault) run = IsDamage fault run

-- how many stored documents are read before a task waits: those that making room needs, and none for a damaged payload
abbrev pub task_need : Result (Task ChangeData) PayloadSpot → State → ℕ
task_need (Ok t) s = room_need s
task_need (Err spot) s = 0
