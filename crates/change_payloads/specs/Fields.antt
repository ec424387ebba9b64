-- Fields that are read from left to right. A field that is read is its value and the bytes behind it. A fault is how
-- many bytes there are from the beginning of the first bad field to the end.
use Rattle.std.specs.Prelude.{ℕ, ◌+◌, zero, suc, List, [], ◌∷◌, length, take, drop, nat_lt, ◌&&◌, not, if◌then◌else◌, Option, Some, None, option_and_then, Result, Ok, Err}
use Rattle.std.specs.Int.{Width, w32, byte_len, from_le_bytes}
use Rattle.std.specs.Str.{is_utf8, bytes_eq}
use Rattle.serde_json.specs.Data.{Data, null, boolean, number, string, array, object, Items, no_items, item}
use Rattle.serde_json.specs.Find.{as_str}
use Rattle.serde_json.specs.Read.{read}
use Rattle.serde_json.specs.Written.{compact_text, has_float}
use Rattle.doc_values.specs.Stored.{document_at}

infixl 10 ◌>>=◌
abbrev pub ◌>>=◌ : {A B : Type 0} → Result A ℕ → (A → Result B ℕ) → Result B ℕ
(Ok x) >>= f = f x
(Err left) >>= f = Err left

abbrev pub byte_at : List ℕ → Result (ℕ × List ℕ) ℕ
byte_at [] = Err 0
byte_at (byte ∷ rest) = Ok (byte, rest)

abbrev pub number_at : Width → List ℕ → Result (ℕ × List ℕ) ℕ
number_at w bytes = if nat_lt (length bytes) (byte_len w) then Err (length bytes) else Ok (from_le_bytes w (take (byte_len w) bytes), drop (byte_len w) bytes)

-- a length, and that many bytes. A length that passes the end is the damage
unfoldable pub piece_at : Width → List ℕ → Result (List ℕ × List ℕ) ℕ
piece_at w bytes = do
  n ← number_at w bytes
  if nat_lt (length n.1) n.0 then Err (length bytes) else Ok (take n.0 n.1, drop n.0 n.1)

-- what a piece holds. Where it holds nothing that is allowed, the piece is the damage
abbrev pub held_or : {A : Type 0} → List ℕ × List ℕ → Option A → Result (A × List ℕ) ℕ
held_or piece None = Err (length piece.0 + length piece.1)
held_or piece (Some value) = Ok (value, piece.1)

-- ---- what a piece may hold

abbrev pub utf8_of : List ℕ → Option (List ℕ)
utf8_of bytes = if is_utf8 bytes then Some bytes else None

abbrev pub if_own : List ℕ → Data → Option Data
if_own bytes d = if not (has_float d) && bytes_eq (compact_text d) bytes then Some d else None

-- the JSON value, without floats, whose compact text this is
abbrev pub json_of : List ℕ → Option Data
json_of bytes = if is_utf8 bytes then option_and_then (if_own bytes) (read bytes) else None

abbrev pub with_text : Option (List ℕ) → Option (List (List ℕ)) → Option (List (List ℕ))
with_text None more = None
with_text (Some text) None = None
with_text (Some text) (Some texts) = Some (text ∷ texts)

abbrev pub item_texts : Items → Option (List (List ℕ))
item_texts no_items = Some []
item_texts (item d ds) = with_text (as_str d) (item_texts ds)

-- the texts of an array of texts
abbrev pub texts_of : Data → Option (List (List ℕ))
texts_of null = None
texts_of (boolean b) = None
texts_of (number n) = None
texts_of (string s) = None
texts_of (array ds) = item_texts ds
texts_of (object ms) = None

abbrev pub ids_of : List ℕ → Option (List (List ℕ))
ids_of bytes = option_and_then texts_of (json_of bytes)

-- ---- fields

unfoldable pub text_at : List ℕ → Result (List ℕ × List ℕ) ℕ
text_at bytes = piece_at w32 bytes >>= λ piece. held_or piece (utf8_of piece.0)

unfoldable pub json_at : List ℕ → Result (Data × List ℕ) ℕ
json_at bytes = piece_at w32 bytes >>= λ piece. held_or piece (json_of piece.0)

unfoldable pub ids_at : List ℕ → Result (List (List ℕ) × List ℕ) ℕ
ids_at bytes = piece_at w32 bytes >>= λ piece. held_or piece (ids_of piece.0)

unfoldable pub stored_at : List ℕ → Result (Data × List ℕ) ℕ
stored_at bytes = piece_at w32 bytes >>= λ piece. held_or piece (document_at piece.0)

unfoldable pub optional_at : List ℕ → Result (Option (List ℕ) × List ℕ) ℕ
optional_at [] = Err 0
optional_at (zero ∷ rest) = Ok (None, rest)
optional_at (suc zero ∷ rest) = do
  text ← text_at rest
  Ok (Some text.0, text.1)
optional_at (suc (suc byte) ∷ rest) = Err (suc (length rest))

unfoldable pub documents_at : ℕ → List ℕ → Result (List Data × List ℕ) ℕ
documents_at zero bytes = Ok ([], bytes)
documents_at (suc n) bytes = do
  first ← stored_at bytes
  others ← documents_at n first.1
  Ok (first.0 ∷ others.0, others.1)

-- a number of documents, and that many of them
unfoldable pub counted_at : List ℕ → Result (List Data × List ℕ) ℕ
counted_at bytes = do
  n ← number_at w32 bytes
  documents_at n.0 n.1
