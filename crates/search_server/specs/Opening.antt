-- Opening the machine that two disks hold, and what follows.
use Rattle.std.specs.Prelude.{◌≡◌, ◌⊎◌, ℕ, ◌+◌, ◌≤◌, List, Option, Some, Ok, Err}
use Rattle.outside_io.specs.Disks.{Contents, fresh}
use Rattle.bucket_sort.specs.declared.log.Opening.{Opening as OpenedBucket}
use Rattle.bucket_sort.specs.Opens.{log_state}
use Rattle.queued_changes.specs.Machine.{run_out}
use Rattle.named_indexes.specs.Changes.{changed}
use Rattle.search_routes.specs.State.{State}
use Rattle.durable_machine.specs.Held.{held, opening_need}
use Rattle.durable_machine.specs.Durable.{CrashHolds, NeedsCheckpoint}
use Rattle.search_server.specs.LinkState.{DiskState, Shared, disk_state}
use Rattle.search_server.specs.Statuses.{DiskRose}
use Rattle.search_server.specs.declared.status.Status.{Status}
use Rattle.search_server.specs.declared.status.Status.TheVariants.{Done, BadWords, ReadFault, WriteFault, DoorFault, DiskFault, Damaged, CutShort, BadHead, RequestsSpent, NoMemory}

-- what a machine is opened from, and what is left of it: how many stored documents were read and buckets opened, and
-- the two disks
pub record Unopened : Type 0 where
  pub fetches : ℕ
  pub openings : ℕ
  pub disk_a : DiskState
  pub disk_b : DiskState

abbrev pub unopened_state : {K : Type 0} → (K → Option Contents) → (K → ℕ) → ℕ → ℕ → K → K → Unopened
unopened_state contents faults fetches openings disk_a disk_b = record {
  fetches = fetches;
  openings = openings;
  disk_a = disk_state contents faults disk_a;
  disk_b = disk_state contents faults disk_b;
}

-- what a log tells of the buckets that were opened, where it tells it
abbrev pub Heard : Type 0
Heard = Option (List OpenedBucket)

-- the same with a machine, and what the log tells
abbrev pub with_state : State → Heard → Unopened → Shared
with_state state heard s = record {
  state = state;
  fetches = s.fetches;
  log = log_state heard s.openings;
  disk_a = s.disk_a;
  disk_b = s.disk_b;
}

-- P of the bytes of two disks where nothing is pending, where they tell them
abbrev pub ForBytes : Unopened → (List ℕ → List ℕ → Type 0) → Type 0
ForBytes s P = (xs ys : List ℕ) → s.disk_a.contents ≡ Some (fresh xs) → s.disk_b.contents ≡ Some (fresh ys) → P xs ys

-- what the two disks hold is as it was, unless they held nothing, or an image of version 1: damage stays too
abbrev pub AsTheyWere : Unopened → DiskState → DiskState → Type 0
AsTheyWere old a b = ForBytes old (λ xs ys. (NeedsCheckpoint xs ys → ⊥)
    → (a.contents ≡ old.disk_a.contents) × (b.contents ≡ old.disk_b.contents))

-- The machine was opened: its state is the one that the disks held, in which no task waits; and whatever a crash may
-- now leave holds it. No bucket was opened on the way.
pub record Opened (heard : Heard) (old : Unopened) (found : Shared) : Type 0 where
  pub state : ForBytes old (λ xs ys. held xs ys ≡ Ok found.state)
  pub crash : CrashHolds found.disk_a.contents found.disk_b.contents (λ t. t ≡ run_out changed found.state)
  pub fetched : ForBytes old (λ xs ys. found.fetches ≤ old.fetches + opening_need xs ys)
  pub log : found.log ≡ log_state heard old.openings
  pub untouched : AsTheyWere old found.disk_a found.disk_b
  pub later_a : old.disk_a.faults ≤ found.disk_a.faults
  pub later_b : old.disk_b.faults ≤ found.disk_b.faults

-- why no machine is opened
abbrev pub IsUnopened : Unopened → Unopened → Status → Type 0
IsUnopened old new DiskFault = DiskRose old.disk_a old.disk_b new.disk_a new.disk_b
IsUnopened old new (Damaged disk place found) =
    ForBytes old (λ xs ys. held xs ys ≡ Err (record { disk = disk; place = place; found = found }))
IsUnopened old new NoMemory = Unit {0}
IsUnopened old new Done = ⊥
IsUnopened old new BadWords = ⊥
IsUnopened old new ReadFault = ⊥
IsUnopened old new WriteFault = ⊥
IsUnopened old new DoorFault = ⊥
IsUnopened old new (CutShort rest) = ⊥
IsUnopened old new (BadHead kind number) = ⊥
IsUnopened old new RequestsSpent = ⊥

-- No machine was opened: whatever a crash may now leave holds the state that the disks held, if they held one.
pub record NotOpened (old new : Unopened) (status : Status) : Type 0 where
  pub why : IsUnopened old new status
  pub kept : ForBytes old (λ xs ys. (s : State) → held xs ys ≡ Ok s
      → CrashHolds new.disk_a.contents new.disk_b.contents (λ t. t ≡ run_out changed s))
  pub fetched : ForBytes old (λ xs ys. new.fetches ≤ old.fetches + opening_need xs ys)
  pub openings : new.openings ≡ old.openings
  pub untouched : AsTheyWere old new.disk_a new.disk_b

-- A machine was opened, and served from what was found to what was left; or none was, and all else is as it was. The
-- log is let go at the end: it told what serving says.
abbrev pub OpensAndServes : Heard → Unopened → Unopened → Status → Type 0 → (Shared → Shared → Type 0) → Type 0
OpensAndServes heard old new status AsItWas Serving =
    (NotOpened old new status × AsItWas)
    ⊎ ((found : Shared) × Opened heard old found × (end : State) × (last : Heard)
    × Serving found (with_state end last new))
