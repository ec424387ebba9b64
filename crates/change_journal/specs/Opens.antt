-- What opening gives.
use Rattle.std.specs.Prelude.{◌≡◌, ◌≢◌, MatchOption, ℕ, ◌+◌, ◌<◌, ◌≤◌, ◌^◌, ◌==◌, nat_le, List, [], ◌∷◌, length, take, drop, slice_index, bytes_eq, codes, if◌then◌else◌, Option, Some, None, Result, Ok, Err}
use Rattle.change_journal.specs.Format.{Look, closed, bad, opened, look, generation_in, length_in, found_at, Field, payload, bad_field, Walk, shut, broken, entry, Spot, Stored, version_of}
use Rattle.change_journal.specs.declared.opening.Head.{Head}
use Rattle.change_journal.specs.declared.opening.Head.TheVariants.{Closed, Bad, Open}
use Rattle.change_journal.specs.declared.opening.Piece.{Piece}
use Rattle.change_journal.specs.declared.opening.Piece.TheVariants.{Payload, BadField}
use Rattle.change_journal.specs.declared.opening.Front.{Front}
use Rattle.change_journal.specs.declared.opening.ImageFound.{ImageFound}
use Rattle.change_journal.specs.declared.opening.Tail.{Tail}
use Rattle.change_journal.specs.declared.opening.Tail.TheVariants.{Shut, Broken}
use Rattle.change_journal.specs.declared.opening.StoredChange.{StoredChange}
use Rattle.change_journal.specs.declared.journal.Side.{Side}
use Rattle.change_journal.specs.declared.journal.Side.TheVariants.{A, B}
use Rattle.change_journal.specs.declared.opening.Opened.{Opened}
use Rattle.change_journal.specs.declared.opening.JournalFault.{JournalFault}
use Rattle.std.specs.Option.{option_map}
use Rattle.index_image.specs.Image.{state_at}
use Rattle.index_image.specs.Rows.{image_view}
use Rattle.index_image.specs.State.{IsState}
use Rattle.change_journal.specs.declared.opening.JournalFault.TheVariants.{DiskFault, Damaged, NoMemory}

abbrev pub number_of : Side → ℕ
number_of A = 0
number_of B = 1

-- what the header of a disk of n bytes says, by its first 24 bytes, or all of them where there are fewer
abbrev pub look_in : ℕ → List ℕ → Look
look_in n hs =
    if nat_le 24 (length hs) then
    (if slice_index hs 0 == 0 then closed
    else if bytes_eq (take 7 (drop 1 hs)) (codes "RANKIDX") then
    (if generation_in hs == 0 then bad 8 else if nat_le (25 + length_in hs) n then opened (generation_in hs) (length_in hs) else bad 16)
    else bad 1)
    else closed

abbrev pub look_of : Head → Look
look_of Closed = closed
look_of (Bad place) = bad place
look_of (Open generation size) = opened generation size

-- the size of the payload, or the place of the first bad field
abbrev pub IsPiece : Piece → Field → List ℕ → Type 0
IsPiece (Payload size) f rest = (f ≡ payload (take size (drop 12 rest))) × (12 + size ≤ length rest)
IsPiece (BadField k) f rest = (f ≡ bad_field k) × (k ≤ length rest + 1)

abbrev pub tail_of : Tail → Walk
tail_of (Shut gate) = shut gate
tail_of (Broken place) = broken place

abbrev pub TailWithin : Tail → ℕ → ℕ → Type 0
TailWithin (Shut gate) start end = (start ≤ gate) × (gate < end)
TailWithin (Broken place) start end = start ≤ place

-- these records, and then the rest
abbrev pub behind : List StoredChange → Walk → Walk
behind [] w = w
behind (change ∷ changes) w = entry change.place change.payload.items (behind changes w)

-- the header is whole: it has so many bytes, of a disk that has n
abbrev pub IsWithin : Head → ℕ → ℕ → Type 0
IsWithin Closed bytes n = Unit {0}
IsWithin (Bad place) bytes n = (place < 24) × (24 ≤ bytes)
IsWithin (Open generation image) bytes n = (24 ≤ bytes) × (25 + image ≤ n)

-- the active disk, as it was opened
pub record Opens (o : Opened) (r : Result (Option Stored) Spot) : Type 0 where
  pub stored : Stored
  pub is : r ≡ Ok (Some stored)
  pub active : o.active ≡ stored.active
  pub image : option_map image_view o.image ≡ Some stored.state
  pub version : o.version ≡ version_of stored.image
  pub image_at : o.image_at ≡ 24
  pub changes : behind o.changes.items (shut o.journal.gate) ≡ stored.records
  -- what is found counts as growth: all of the journal, its gates included
  pub grown : 24 + length stored.image + o.journal.grown ≡ o.journal.gate + 1

-- no disk is open
pub record OpensNone (o : Opened) : Type 0 where
  pub active : o.active ≡ 0
  pub image : o.image ≡ None
  pub version : o.version ≡ 0
  pub image_at : o.image_at ≡ 0
  pub changes : o.changes.items ≡ []

abbrev pub Stands : Opened → Result (Option Stored) Spot → Type 0
Stands o (Err spot) = ⊥
Stands o (Ok None) = OpensNone o
Stands o (Ok (Some s)) = Opens o (Ok (Some s))

-- the journal of what was opened has an image exactly where one is given, which is a state, and the image's count and the
-- changes are its count
abbrev pub IsReady : Opened → Type 0
IsReady o = MatchOption o.image ((o.journal.active ≡ None) × (o.journal.count ≡ 0))
    (λ rows. (o.journal.active ≢ None) × IsState (image_view rows) × (o.journal.count ≡ rows.changes + length o.changes.items))

-- the same, where a disk may fail
abbrev pub AnswersAll : Result Opened JournalFault → Result (Option Stored) Spot → Type 0
AnswersAll (Ok o) r = Stands o r
AnswersAll (Err (Damaged disk place found)) r = r ≡ Err (record { disk = disk; place = place; found = found })
AnswersAll (Err NoMemory) r = Unit {0}
AnswersAll (Err DiskFault) r = Unit {0}

-- ---- one disk

-- a disk is closed, or open as its header says
abbrev pub IsOpen : Option Front → List ℕ → Type 0
IsOpen None xs = look xs ≡ closed
IsOpen (Some f) xs = (look xs ≡ opened f.generation f.size) × (length xs ≡ f.len) × (f.eighth ≡ found_at xs 8)

-- what reading the header of a disk answers
abbrev pub IsFront : Side → Result (Option Front) JournalFault → List ℕ → Type 0
IsFront side (Ok front) xs = IsOpen front xs
IsFront side (Err (Damaged disk place found)) xs = (look xs ≡ bad place) × (disk ≡ number_of side) × (found ≡ found_at xs place)
IsFront side (Err NoMemory) xs = Unit {0}
IsFront side (Err DiskFault) xs = Unit {0}

-- the disk is closed, or its generation is below g
abbrev pub IsBelow : ℕ → Option Front → Type 0
IsBelow g None = Unit {0}
IsBelow g (Some f) = f.generation < g

-- of two disks the one with the greater generation, or the damage that both have the same
abbrev pub IsChoice : Option Front → Option Front → Result (Option (Side × Front)) JournalFault → Type 0
IsChoice first second (Ok None) = (first ≡ None) × (second ≡ None)
IsChoice first second (Ok (Some (A, f))) = (first ≡ Some f) × IsBelow f.generation second
IsChoice first second (Ok (Some (B, f))) = (second ≡ Some f) × IsBelow f.generation first
IsChoice first second (Err fault) = (f g : Front) × (first ≡ Some f) × (second ≡ Some g) × (f.generation ≡ g.generation)
    × (fault ≡ Damaged 1 8 g.eighth)

-- these are the version and the state of an image
abbrev pub IsImageOf : ImageFound → List ℕ → Type 0
IsImageOf found image = (found.version ≡ version_of image) × (state_at image ≡ Ok (image_view found.rows))

-- the disk is open, and these are its image and the bytes behind that
abbrev pub IsReadAs : Front → ImageFound → List ℕ → List ℕ → Type 0
IsReadAs f image bytes xs = (look xs ≡ opened f.generation f.size) × IsImageOf image (take f.size (drop 24 xs)) × (bytes ≡ drop (24 + f.size) xs)

-- the journal goes on at this disk
abbrev pub GoesOn : Side → ℕ → Opened → Type 0
GoesOn side g o = (o.journal.active ≡ Some side) × (o.journal.generation ≡ g) × (o.journal.gate + 1 < 2 ^ 64) × (o.journal.grown ≤ o.journal.gate + 1) × IsReady o
