-- The state of an image, by its fields in order.
use Rattle.std.specs.Prelude.{ℕ, zero, suc, ◌+◌, ◌&&◌, ◌||◌, ◌==◌, not, Bool, List, [], ◌∷◌, ◌++◌, length, nat_lt, if◌then◌else◌, Option, None, Some, option_and_then, unwrap_or, Result, Ok, Err}
use Rattle.std.specs.Int.{Width, w32, w64}
use Rattle.std.specs.Result.{result_ok}
use Rattle.std.specs.Str.{is_utf8}
use Rattle.search_base.specs.declared.outcome.OutcomeRow.{OutcomeRow}
use Rattle.serde_json.specs.Data.{Data}
use Rattle.serde_json.specs.Read.{read}
use Rattle.doc_values.specs.Ids.{is_uid}
use Rattle.doc_values.specs.Stored.{document_at}
use Rattle.doc_values.specs.Walk.{document_of}
use Rattle.index_settings.specs.View.{SettingsView}
use Rattle.index_image.specs.declared.rows.ImageDocument.{ImageDocument}
use Rattle.change_payloads.specs.Change.{Spot, kind_at, or_spot}
use Rattle.change_payloads.specs.Fields.{◌>>=◌, byte_at, number_at, piece_at, held_or, text_at, optional_at}
use Rattle.index_image.specs.Names.{has_name}
use Rattle.index_image.specs.Outcomes.{is_row}
use Rattle.index_image.specs.Rows.{IndexData, ImageData}
use Rattle.index_image.specs.State.{is_above, settings_of, is_next, external_ids, fits, most_documents, most_outcomes}

-- a number that is not above another
unfoldable pub up_to_at : Width → ℕ → List ℕ → Result (ℕ × List ℕ) ℕ
up_to_at w most bytes = do
  n ← number_at w bytes
  if nat_lt most n.0 then Err (length bytes) else Ok n

-- a text, where it is allowed. Where it is not, its bytes are the damage
abbrev pub allowed : Bool → List ℕ × List ℕ → Result (List ℕ × List ℕ) ℕ
allowed is_allowed text = if is_allowed then Ok text else Err (length text.0 + length text.1)

-- So many of a kind: `one` reads the next from the bytes, after those before it. Gives these too.
unfoldable pub list_at : {A : Type 0} → (List A → List ℕ → Result (A × List ℕ) ℕ) → ℕ → List A → List ℕ → Result (List A × List ℕ) ℕ
list_at one zero before bytes = Ok (before, bytes)
list_at one (suc n) before bytes = do
  next ← one before bytes
  list_at one n (before ++ next.0 ∷ []) next.1

-- a number up to another, and so many of a kind
unfoldable pub counted_list_at : {A : Type 0} → (List A → List ℕ → Result (A × List ℕ) ℕ) → ℕ → List ℕ → Result (List A × List ℕ) ℕ
counted_list_at one most bytes = do
  n ← up_to_at w32 most bytes
  list_at one n.0 [] n.1

unfoldable pub uid_at : List IndexData → List ℕ → Result (List ℕ × List ℕ) ℕ
uid_at before bytes = do
  uid ← text_at bytes
  allowed (is_uid uid.0 && is_above before uid.0) uid

-- a key is a text that is not empty
abbrev pub if_some_text : Option (List ℕ) × List ℕ → Result (Option (List ℕ) × List ℕ) ℕ
if_some_text (None, rest) = Ok (None, rest)
if_some_text (Some text, rest) = if nat_lt 0 (length text) then Ok (Some text, rest) else Err (length rest)

unfoldable pub key_at : List ℕ → Result (Option (List ℕ) × List ℕ) ℕ
key_at bytes = optional_at bytes >>= if_some_text

unfoldable pub path_at : List (List ℕ) → List ℕ → Result (List ℕ × List ℕ) ℕ
path_at before bytes = do
  path ← text_at bytes
  allowed (not (has_name path.0 before)) path

unfoldable pub settings_at : List ℕ → Result (SettingsView × List ℕ) ℕ
settings_at bytes = piece_at w64 bytes >>= λ piece. held_or piece (settings_of piece.0)

unfoldable pub id_at : ℕ → List ImageDocument → List ℕ → Result (ℕ × List ℕ) ℕ
id_at next_id before bytes = do
  id ← number_at w32 bytes
  if is_next before id.0 && nat_lt id.0 next_id then Ok id else Err (length bytes)

-- the document that these bytes spell, in whatever JSON text
abbrev pub spelled : List ℕ → Option Data
spelled bytes = option_and_then (λ d. result_ok (document_of d)) (if is_utf8 bytes then read bytes else None)

abbrev pub if_fits : List ℕ → List (List ℕ) → List (List ℕ) → Data → Option Data
if_fits key paths taken d = if fits key paths taken d then Some d else None

-- the document whose text this is, where it fits
abbrev pub fitting : List ℕ → List (List ℕ) → List (List ℕ) → List ℕ → Option Data
fitting key paths taken bytes = option_and_then (if_fits key paths taken) (document_at bytes)

unfoldable pub fitting_at : List ℕ → List (List ℕ) → List (List ℕ) → List ℕ → Result (Data × List ℕ) ℕ
fitting_at key paths taken bytes = piece_at w64 bytes >>= λ piece. held_or piece (fitting key paths taken piece.0)

unfoldable pub image_document_at : List ℕ → List (List ℕ) → ℕ → List ImageDocument → List ℕ → Result (ImageDocument × List ℕ) ℕ
image_document_at key paths next_id before bytes = do
  id ← id_at next_id before bytes
  document ← fitting_at key paths (external_ids key before) id.1
  Ok (record { id = record { 0 = id.0 }; document = document.0 }, document.1)

unfoldable pub index_at : List IndexData → List ℕ → Result (IndexData × List ℕ) ℕ
index_at before bytes = do
  uid ← uid_at before bytes
  key ← key_at uid.1
  next_id ← up_to_at w32 1000000 key.1
  paths ← counted_list_at path_at 1000 next_id.1
  settings ← settings_at paths.1
  documents ← counted_list_at (image_document_at (unwrap_or key.0 []) paths.0 next_id.0) (most_documents key.0) settings.1
  Ok (record { uid = uid.0; key = key.0; next_id = next_id.0; paths = paths.0; settings = settings.0; documents = documents.0 }, documents.1)

-- version 1 or 2
unfoldable pub version_at : List ℕ → Result (ℕ × List ℕ) ℕ
version_at bytes = do
  byte ← byte_at bytes
  if byte.0 == 1 || byte.0 == 2 then Ok byte else Err (length bytes)

unfoldable pub outcome_uid_at : List ℕ → Result (List ℕ × List ℕ) ℕ
outcome_uid_at bytes = do
  uid ← text_at bytes
  allowed (is_uid uid.0) uid

unfoldable pub row_at : List ℕ → Result (ℕ × List ℕ) ℕ
row_at bytes = do
  byte ← byte_at bytes
  if is_row byte.0 then Ok byte else Err (length bytes)

unfoldable pub outcome_at : List ℕ → Result (OutcomeRow × List ℕ) ℕ
outcome_at bytes = do
  kind ← kind_at bytes
  uid ← outcome_uid_at kind.1
  row ← row_at uid.1
  Ok (record { uid = uid.0; kind = kind.0; row = row.0 }, row.1)

-- the outcomes of an image of a version that counts so many changes: none in version 1
unfoldable pub outcomes_at : ℕ → ℕ → List ℕ → Result (List OutcomeRow × List ℕ) ℕ
outcomes_at version changes bytes = if version == 1 then Ok ([], bytes) else counted_list_at (λ before. outcome_at) (most_outcomes changes) bytes

unfoldable pub whole_image : List ℕ → Result ImageData ℕ
whole_image bytes = do
  version ← version_at bytes
  changes ← up_to_at w64 1000000000 version.1
  indexes ← counted_list_at index_at 1000 changes.1
  outcomes ← outcomes_at version.0 changes.0 indexes.1
  if length outcomes.1 == 0 then Ok (record { changes = changes.0; indexes = indexes.0; outcomes = outcomes.0 }) else Err (length outcomes.1)

-- the state of all the bytes, or the damage
abbrev pub state_at : List ℕ → Result ImageData Spot
state_at bytes = or_spot bytes (whole_image bytes)
