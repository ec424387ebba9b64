-- What a turn of a link finds, and serving it.
use Rattle.std.specs.Prelude.{ℕ, List, Option}
use Rattle.outside_io.specs.Disks.{Contents}
use Rattle.bucket_sort.specs.Opens.{LogState}
use Rattle.search_routes.specs.State.{State}

-- what reads give of a disk and what a crash may leave of it, where it tells that; and how often it failed
pub record DiskState : Type 0 where
  pub contents : Option Contents
  pub faults : ℕ

-- what the links of a server share: the machine; how many stored documents were read up to now; what the log tells of
-- the buckets that were opened; and the two disks
pub record Shared : Type 0 where
  pub state : State
  pub fetches : ℕ
  pub log : LogState
  pub disk_a : DiskState
  pub disk_b : DiskState

-- the bytes that the link has left and all that it was told, where it tells that; the machine; how many stored
-- documents were read up to now; what the log tells; how often reading and writing failed; and the two disks
pub record LinkState : Type 0 where
  pub pending : Option (List ℕ)
  pub told : Option (List ℕ)
  pub state : State
  pub fetches : ℕ
  pub log : LogState
  pub read_faults : ℕ
  pub write_faults : ℕ
  pub disk_a : DiskState
  pub disk_b : DiskState

-- ---- by what the disks and the link tell

abbrev pub disk_state : {K : Type 0} → (K → Option Contents) → (K → ℕ) → K → DiskState
disk_state contents faults disk = record { contents = contents disk; faults = faults disk }

abbrev pub shared_state : {K : Type 0} → (K → Option Contents) → (K → ℕ) → State → ℕ → LogState → K → K → Shared
shared_state contents faults state fetches log disk_a disk_b = record {
  state = state;
  fetches = fetches;
  log = log;
  disk_a = disk_state contents faults disk_a;
  disk_b = disk_state contents faults disk_b;
}

abbrev pub link_state : {L : Type 0} → (L → Option (List ℕ)) → (L → Option (List ℕ)) → (L → ℕ) → (L → ℕ)
    → L → Shared → LinkState
link_state left told read_faults write_faults link shared = record {
  pending = left link;
  told = told link;
  state = shared.state;
  fetches = shared.fetches;
  log = shared.log;
  read_faults = read_faults link;
  write_faults = write_faults link;
  disk_a = shared.disk_a;
  disk_b = shared.disk_b;
}
