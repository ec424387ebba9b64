-- The state that stands in an image, and what reading it needs.
use Rattle.std.specs.Prelude.{◌≡◌, ℕ, List, map, Result, Ok, Err}
use Rattle.change_payloads.specs.Change.{Spot}
use Rattle.change_payloads.specs.declared.fault.ImageFault.{ImageFault}
use Rattle.change_payloads.specs.declared.fault.ImageFault.TheVariants.{Damaged, NoMemory}
use Rattle.index_image.specs.Rows.{ImageData}
use Rattle.queued_changes.specs.State.{idle}
use Rattle.named_indexes.specs.Images.{entry_of, documents_of}
use Rattle.search_routes.specs.State.{State, finished_part}

-- the machine of an image, with what became of its last tasks, and no task that waits
abbrev pub state_of : ImageData → State
state_of s = idle s.changes s.outcomes (map entry_of s.indexes)

-- each document is read once
abbrev pub image_need : ImageData → ℕ
image_need s = documents_of s.indexes

-- the same of bytes that may spell no state
abbrev pub need_of : Result ImageData Spot → ℕ
need_of (Ok s) = image_need s
need_of (Err spot) = 0

-- the machine of the image that the bytes spell, or where they are damaged, unless memory was wanting
abbrev pub Opens : Result State ImageFault → Result ImageData Spot → Type 0
Opens (Ok machine) spelled = (s : ImageData) × (spelled ≡ Ok s) × (machine ≡ state_of s)
Opens (Err (Damaged place found)) spelled = spelled ≡ Err (record { place = place; found = found })
Opens (Err NoMemory) spelled = Unit {0}

-- these bytes spell the finished part of this machine
pub record Spells (bytes : List ℕ) (machine : State) (spelled : Result ImageData Spot) : Type 0 where
  pub state : ImageData
  pub is : spelled ≡ Ok state
  pub machine_of : state_of state ≡ finished_part machine
