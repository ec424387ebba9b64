-- A machine whose accepted tasks stand on two disks.
use Rattle.std.specs.Prelude.{◌≡◌, ◌≢◌, ◌⊎◌, ℕ, ◌-◌, ◌<◌, ◌^◌, List, [], ◌∷◌, Option, None, Some, Result, Ok, Err}
use Rattle.outside_io.specs.Disks.{Contents, fresh, MayLeave}
use Rattle.change_journal.specs.Fits.{BothTold, IsSettled, Fits}
use Rattle.change_journal.specs.Format.{Spot, Stored, stored, version_of}
use Rattle.change_journal.specs.Shut.{image_disk}
use Rattle.index_image.specs.Image.{state_at}
use Rattle.queued_changes.specs.State.{accepted}
use Rattle.queued_changes.specs.Machine.{run_out}
use Rattle.named_indexes.specs.Changes.{changed}
use Rattle.search_routes.specs.Images.{Spells}
use Rattle.search_routes.specs.State.{State}
use Rattle.durable_machine.specs.Held.{held}
use Rattle.durable_machine.specs.declared.machine.DurableMachine.{DurableMachine}

-- two disks where nothing is pending hold what this machine leaves once all tasks that wait have run, where they tell
-- what they hold
abbrev pub Hold : Option Contents → Option Contents → State → Type 0
Hold a b s = (xs ys : List ℕ) → a ≡ Some (fresh xs) → b ≡ Some (fresh ys) → held xs ys ≡ Ok (run_out changed s)

-- whatever a crash may now leave on two disks holds one of these states
abbrev pub CrashHolds : Option Contents → Option Contents → (State → Type 0) → Type 0
CrashHolds a b P = (xs ys : List ℕ) → MayLeave a xs → MayLeave b ys → (t : State) × (held xs ys ≡ Ok t) × P t

-- the active image is of version 2, or no checkpoint can be made any more
abbrev pub IsMigrated : Result (Option Stored) Spot → Type 0
IsMigrated (Ok None) = ⊥
IsMigrated (Ok (Some s)) = (version_of s.image ≡ 2) ⊎ (s.generation ≡ 2 ^ 64 - 1)
IsMigrated (Err spot) = ⊥

-- what opening has to make a checkpoint of: no disk is open, or the active image is of version 1 and there is a
-- generation left
abbrev pub IsToBeMade : Result (Option Stored) Spot → Type 0
IsToBeMade (Ok None) = Unit {0}
IsToBeMade (Ok (Some s)) = (version_of s.image ≡ 1) × (s.generation < 2 ^ 64 - 1)
IsToBeMade (Err spot) = ⊥

-- where no payload is damaged either
abbrev pub NeedsCheckpoint : List ℕ → List ℕ → Type 0
NeedsCheckpoint xs ys = ((s : State) × (held xs ys ≡ Ok s)) × IsToBeMade (stored xs ys)

-- the tasks of the machine, run or not, are what the disks hold, behind an image of version 2 where one can be made;
-- nothing is pending, and its journal goes on there
pub record IsDurable (m : DurableMachine) (a b : Option Contents) : Type 0 where
  pub active : m.journal.active ≢ None
  pub fits : Fits m.journal a b
  pub count : m.journal.count ≡ accepted m.machine
  pub settled_a : IsSettled a
  pub settled_b : IsSettled b
  pub holds : Hold a b m.machine
  pub migrated : BothTold a b (λ xs ys. IsMigrated (stored xs ys))

-- this disk is open at generation 1, with an image of the state and no task behind it
abbrev pub IsFirst : State → Option Contents → Type 0
IsFirst s o = (image : List ℕ) × Spells image s (state_at image) × (o ≡ Some (fresh (1 ∷ image_disk 1 image (0 ∷ []))))
