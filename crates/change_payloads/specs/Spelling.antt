-- How fields are spelled, and the one spelling of each change. Numbers are little-endian.
use Rattle.std.specs.Prelude.{◌≡◌, ◌≤◌, ℕ, List, [], ◌∷◌, ◌++◌, length, map, false, Option, Some, None}
use Rattle.std.specs.Int.{w32, to_le_bytes}
use Rattle.std.specs.List.{flat_map}
use Rattle.serde_json.specs.Data.{Data, string, array, depth}
use Rattle.serde_json.specs.Read.{max_depth}
use Rattle.serde_json.specs.View.{items_of}
use Rattle.serde_json.specs.Written.{compact_text, has_float}
use Rattle.document_changes.specs.Changes.{KindData, create, drop_index, replace, update, remove, clear, patch, reset, ChangeData}

-- a text: its length in four bytes, and its bytes
abbrev pub text : List ℕ → List ℕ
text bytes = to_le_bytes w32 (length bytes) ++ bytes

-- one byte, 0 where there is no text, and 1 before a text
abbrev pub optional : Option (List ℕ) → List ℕ
optional None = 0 ∷ []
optional (Some bytes) = 1 ∷ text bytes

-- the compact text of a JSON value, as a text
abbrev pub json : Data → List ℕ
json d = text (compact_text d)

-- an array of texts
abbrev pub texts_data : List (List ℕ) → Data
texts_data texts = array (items_of (map string texts))

-- the number of documents in four bytes, and each document
abbrev pub documents : List Data → List ℕ
documents ds = to_le_bytes w32 (length ds) ++ flat_map json ds

-- the byte of each kind of change
abbrev pub kind_byte : KindData → ℕ
kind_byte (create key) = 1
kind_byte drop_index = 2
kind_byte (replace key ds) = 3
kind_byte (update key ds) = 4
kind_byte (remove ids) = 5
kind_byte clear = 6
kind_byte (patch members) = 7
kind_byte reset = 8

-- what stands behind the uid
abbrev pub body : KindData → List ℕ
body (create key) = optional key
body drop_index = []
body (replace key ds) = optional key ++ documents ds
body (update key ds) = optional key ++ documents ds
body (remove ids) = json (texts_data ids)
body clear = []
body (patch members) = json members
body reset = []

-- the kind, the uid, and what the kind has
abbrev pub change : ChangeData → List ℕ
change c = kind_byte c.kind ∷ (text c.uid ++ body c.kind)

-- the members of a patch have a text that is read again: no number is a float, and they nest no deeper than a text may
abbrev pub HasText : KindData → Type 0
HasText (create key) = Unit {0}
HasText drop_index = Unit {0}
HasText (replace key ds) = Unit {0}
HasText (update key ds) = Unit {0}
HasText (remove ids) = Unit {0}
HasText clear = Unit {0}
HasText (patch members) = (has_float members ≡ false) × (depth members ≤ max_depth)
HasText reset = Unit {0}
