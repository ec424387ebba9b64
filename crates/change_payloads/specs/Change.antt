-- The change of a payload.
use Rattle.std.specs.Prelude.{ℕ, ◌-◌, ◌==◌, ◌||◌, List, length, nat_lt, slice_get, if◌then◌else◌, Option, Result, Ok, Err}
use Rattle.serde_json.specs.Data.{Data}
use Rattle.document_changes.specs.Changes.{KindData, create, drop_index, replace, update, remove, clear, patch, reset, ChangeData}
use Rattle.change_payloads.specs.Fields.{◌>>=◌, byte_at, text_at, optional_at, counted_at, ids_at, json_at}

-- the byte of one of the eight kinds
unfoldable pub kind_at : List ℕ → Result (ℕ × List ℕ) ℕ
kind_at bytes = do
  byte ← byte_at bytes
  if byte.0 == 0 || nat_lt 8 byte.0 then Err (length bytes) else Ok byte

unfoldable pub create_at : List ℕ → Result (KindData × List ℕ) ℕ
create_at bytes = do
  key ← optional_at bytes
  Ok (create key.0, key.1)

unfoldable pub stored_with : (Option (List ℕ) → List Data → KindData) → List ℕ → Result (KindData × List ℕ) ℕ
stored_with made bytes = do
  key ← optional_at bytes
  documents ← counted_at key.1
  Ok (made key.0 documents.0, documents.1)

unfoldable pub remove_at : List ℕ → Result (KindData × List ℕ) ℕ
remove_at bytes = do
  ids ← ids_at bytes
  Ok (remove ids.0, ids.1)

unfoldable pub patch_at : List ℕ → Result (KindData × List ℕ) ℕ
patch_at bytes = do
  members ← json_at bytes
  Ok (patch members.0, members.1)

-- what stands behind the uid, by the byte of the kind
unfoldable pub body_at : ℕ → List ℕ → Result (KindData × List ℕ) ℕ
body_at byte bytes =
    if byte == 1 then create_at bytes
    else if byte == 2 then Ok (drop_index, bytes)
    else if byte == 3 then stored_with replace bytes
    else if byte == 4 then stored_with update bytes
    else if byte == 5 then remove_at bytes
    else if byte == 6 then Ok (clear, bytes)
    else if byte == 7 then patch_at bytes
    else Ok (reset, bytes)

-- the change of all the bytes
unfoldable pub whole_change : List ℕ → Result ChangeData ℕ
whole_change bytes = do
  byte ← kind_at bytes
  uid ← text_at byte.1
  kind ← body_at byte.0 uid.1
  if length kind.1 == 0 then Ok (record { uid = uid.0; kind = kind.0 }) else Err (length kind.1)

-- ---- damage

-- where a bad field begins, and the byte there, if there is one
pub record Spot : Type 0 where
  pub place : ℕ
  pub found : Option ℕ

abbrev pub spot : List ℕ → ℕ → Spot
spot bytes left = record { place = length bytes - left; found = slice_get bytes (length bytes - left) }

abbrev pub or_spot : {A : Type 0} → List ℕ → Result A ℕ → Result A Spot
or_spot bytes (Ok x) = Ok x
or_spot bytes (Err left) = Err (spot bytes left)

abbrev pub change_at : List ℕ → Result ChangeData Spot
change_at bytes = or_spot bytes (whole_change bytes)
