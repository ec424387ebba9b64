-- What the bytes of two disks stand for. On a disk, with all numbers little-endian: byte 0 is a gate; bytes 1 to 7 are the
-- name RANKIDX; bytes 8 to 15 are the generation, from 1; bytes 16 to 23 are the length L of the image; the image stands at
-- 24, and the journal at 24 + L. A journal is a gate and, where it is not 0, the number of a change (8 bytes), the length of
-- its payload (4 bytes), the payload, and the next gate. The disk with the greater generation is the active one.
use Rattle.std.specs.Prelude.{ℕ, suc, zero, ◌+◌, ◌==◌, ◌&&◌, nat_le, nat_lt, List, [], ◌∷◌, ◌++◌, length, take, drop, slice_index, Option, Some, None, Result, Ok, Err, if◌then◌else◌, bytes_eq, codes}
use Rattle.std.specs.Int.{w32, w64, from_le_bytes, to_le_bytes}
use Rattle.change_payloads.specs.Change.{Spot as ImageSpot}
use Rattle.index_image.specs.Image.{state_at}
use Rattle.index_image.specs.Rows.{ImageData}

-- the header of a disk. It is closed where the disk is shorter than 24 bytes or its gate is 0
pub data Look : Type 0 where
  closed : Look
  -- the first field that is not allowed
  bad : ℕ → Look
  -- the generation, and the length of the image
  opened : ℕ → ℕ → Look

unfoldable pub generation_in : List ℕ → ℕ
generation_in xs = from_le_bytes w64 (take 8 (drop 8 xs))

unfoldable pub length_in : List ℕ → ℕ
length_in xs = from_le_bytes w64 (take 8 (drop 16 xs))

unfoldable pub look_length : List ℕ → Look
look_length xs = if nat_le (25 + length_in xs) (length xs) then opened (generation_in xs) (length_in xs) else bad 16

unfoldable pub look_generation : List ℕ → Look
look_generation xs = if generation_in xs == 0 then bad 8 else look_length xs

unfoldable pub look_name : List ℕ → Look
look_name xs = if bytes_eq (take 7 (drop 1 xs)) (codes "RANKIDX") then look_generation xs else bad 1

unfoldable pub look_gate : List ℕ → Look
look_gate xs = if slice_index xs 0 == 0 then closed else look_name xs

unfoldable pub look : List ℕ → Look
look xs = if nat_le 24 (length xs) then look_gate xs else closed

-- what stands after an open gate: a payload, or the place of the first bad field, from the gate on
pub data Field : Type 0 where
  payload : List ℕ → Field
  bad_field : ℕ → Field

unfoldable pub size_in : List ℕ → ℕ
size_in rest = from_le_bytes w32 (take 4 (drop 8 rest))

unfoldable pub field_size : List ℕ → Field
field_size rest = if nat_le 12 (length rest) && nat_le (12 + size_in rest) (length rest) then payload (take (size_in rest) (drop 12 rest)) else bad_field 9

unfoldable pub field_in : ℕ → List ℕ → Field
field_in n rest = if nat_le 8 (length rest) && (from_le_bytes w64 (take 8 rest) == n) then field_size rest else bad_field 1

-- the records, each with the place of its payload, up to the gate that is shut or the first bad field
pub data Walk : Type 0 where
  shut : ℕ → Walk
  broken : ℕ → Walk
  entry : ℕ → List ℕ → Walk → Walk

unfoldable pub walk_field : ℕ → Field → (ℕ → Walk) → Walk
walk_field at (payload bytes) next = entry (at + 13) bytes (next (length bytes))
walk_field at (bad_field k) next = broken (at + k)

-- the gate stands behind `skip` more bytes, the first of these at the place `at`; n changes come before
unfoldable pub walk : ℕ → ℕ → ℕ → List ℕ → Walk
walk skip at n [] = broken at
walk zero at n (gate ∷ rest) = if gate == 0 then shut at else walk_field at (field_in n rest) (λ size. walk (12 + size) (at + 1) (n + 1) rest)
walk (suc skip) at n (x ∷ xs) = walk skip (at + 1) n xs

abbrev pub payloads : Walk → List (List ℕ)
payloads (shut at) = []
payloads (broken at) = []
payloads (entry at bytes w) = bytes ∷ payloads w

-- the place of the shut gate, or of the bad field
abbrev pub end_of : Walk → Result ℕ ℕ
end_of (shut at) = Ok at
end_of (broken at) = Err at
end_of (entry at bytes w) = end_of w

-- a byte that is not allowed: the disk, the place, and what stands there, if anything does
pub record Spot : Type 0 where
  pub disk : ℕ
  pub place : ℕ
  pub found : Option ℕ

abbrev pub found_at : List ℕ → ℕ → Option ℕ
found_at xs k = if nat_lt k (length xs) then Some (slice_index xs k) else None

-- the version of an image: its first byte; 0 of no bytes
abbrev pub version_of : List ℕ → ℕ
version_of [] = 0
version_of (version ∷ rest) = version

pub record Stored : Type 0 where
  pub active : ℕ
  pub generation : ℕ
  pub image : List ℕ
  pub state : ImageData  -- the state that the image spells, which counts the changes before the journal's
  pub records : Walk
  pub gate : ℕ

unfoldable pub by_end : ℕ → ℕ → List ℕ → List ℕ → ImageData → Walk → Result ℕ ℕ → Result (Option Stored) Spot
by_end d g xs image s w (Ok gate) = Ok (Some (record { active = d; generation = g; image = image; state = s; records = w; gate = gate }))
by_end d g xs image s w (Err place) = Err (record { disk = d; place = place; found = found_at xs place })

unfoldable pub by_walk : ℕ → ℕ → List ℕ → List ℕ → ImageData → Walk → Result (Option Stored) Spot
by_walk d g xs image s w = by_end d g xs image s w (end_of w)

-- the image is read whole before the journal
unfoldable pub by_state : ℕ → ℕ → ℕ → List ℕ → List ℕ → Result ImageData ImageSpot → Result (Option Stored) Spot
by_state d g l xs image (Ok s) = by_walk d g xs image s (walk 0 (24 + l) s.changes (drop (24 + l) xs))
by_state d g l xs image (Err spot) = Err (record { disk = d; place = 24 + spot.place; found = spot.found })

unfoldable pub active_of : ℕ → ℕ → ℕ → List ℕ → Result (Option Stored) Spot
active_of d g l xs = by_state d g l xs (take l (drop 24 xs)) (state_at (take l (drop 24 xs)))

unfoldable pub by_looks : List ℕ → List ℕ → Look → Look → Result (Option Stored) Spot
by_looks a b (bad k) other = Err (record { disk = 0; place = k; found = found_at a k })
by_looks a b closed (bad k) = Err (record { disk = 1; place = k; found = found_at b k })
by_looks a b (opened g l) (bad k) = Err (record { disk = 1; place = k; found = found_at b k })
by_looks a b closed closed = Ok None
by_looks a b (opened g l) closed = active_of 0 g l a
by_looks a b closed (opened h m) = active_of 1 h m b
by_looks a b (opened g l) (opened h m) =
    if g == h then Err (record { disk = 1; place = 8; found = found_at b 8 }) else if nat_lt h g then active_of 0 g l a else active_of 1 h m b

unfoldable pub stored : List ℕ → List ℕ → Result (Option Stored) Spot
stored a b = by_looks a b (look a) (look b)

-- the stored pair: the bytes of the active image, and the payloads
pub record Pair : Type 0 where
  pub image : Option (List ℕ)
  pub changes : List (List ℕ)

abbrev pub pair_of : Option Stored → Pair
pair_of None = record { image = None; changes = [] }
pair_of (Some s) = record { image = Some s.image; changes = payloads s.records }

abbrev pub pair_in : Result (Option Stored) Spot → Result Pair Spot
pair_in (Ok s) = Ok (pair_of s)
pair_in (Err spot) = Err spot

abbrev pub stored_pair : List ℕ → List ℕ → Result Pair Spot
stored_pair a b = pair_in (stored a b)

abbrev pub with_change : List ℕ → Pair → Pair
with_change bytes p = record { image = p.image; changes = p.changes ++ bytes ∷ [] }

-- a record: the number of a change, and its payload
pub record Entry : Type 0 where
  pub number : ℕ
  pub payload : List ℕ

-- the bytes that are written behind a gate: a record, and a shut gate
abbrev pub entry_bytes : ℕ → List ℕ → List ℕ
entry_bytes number bytes = to_le_bytes w64 number ++ (to_le_bytes w32 (length bytes) ++ (bytes ++ 0 ∷ []))
