-- Which states an image may hold.
use Rattle.std.specs.Prelude.{◌≡◌, ℕ, min, ◌<◌, ◌≤◌, List, [], ◌∷◌, ◌++◌, length, Bool, true, false, ◌&&◌, not, nat_lt, Option, Some, None, option_and_then, unwrap_or, if◌then◌else◌, bytes_eq}
use Rattle.std.specs.Result.{result_ok}
use Rattle.std.specs.Cmp.Lexicographic.{slice_cmp}
use Rattle.std.specs.List.{list_all, AllByRecursion}
use Rattle.std.specs.Ordering.{nat_cmp, is_lt}
use Rattle.std.specs.Str.{is_utf8}
use Rattle.serde_json.specs.Data.{Data}
use Rattle.serde_json.specs.Read.{read}
use Rattle.doc_values.specs.Ids.{external_id_of, is_uid}
use Rattle.doc_values.specs.Walk.{paths_of}
use Rattle.index_settings.specs.View.{SettingsView}
use Rattle.index_settings.specs.Patch.{patch_of}
use Rattle.index_settings.specs.Table.{defaults}
use Rattle.index_image.specs.declared.rows.ImageDocument.{ImageDocument}
use Rattle.index_image.specs.Layout.{settings_text}
use Rattle.index_image.specs.Names.{has_name}
use Rattle.index_image.specs.Outcomes.{IsOutcome}
use Rattle.index_image.specs.Rows.{IndexData, ImageData}

-- P holds of each member and of those before it; `before` stand before the first
abbrev pub EachAfter : {A : Type 0} → (List A → A → Type 0) → List A → List A → Type 0
EachAfter P before [] = Unit {0}
EachAfter P before (x ∷ xs) = P before x × EachAfter P (before ++ x ∷ []) xs

-- ---- uids

-- the uid is above that of the last index, by bytes
abbrev pub is_above : List IndexData → List ℕ → Bool
is_above [] uid = true
is_above (i ∷ []) uid = is_lt (slice_cmp nat_cmp i.uid uid)
is_above (i ∷ j ∷ before) uid = is_above (j ∷ before) uid

-- ---- settings

abbrev pub if_printed : List ℕ → SettingsView → Option SettingsView
if_printed bytes s = if bytes_eq (settings_text s) bytes then Some s else None

abbrev pub printed_at : List ℕ → Option Data → Option SettingsView
printed_at bytes value = option_and_then (λ d. option_and_then (if_printed bytes) (result_ok (patch_of defaults d))) value

-- the settings that are printed as this text
abbrev pub settings_of : List ℕ → Option SettingsView
settings_of bytes = if is_utf8 bytes then printed_at bytes (read bytes) else None

-- ---- documents

-- the internal id is above that of the last document
abbrev pub is_next : List ImageDocument → ℕ → Bool
is_next [] id = true
is_next (d ∷ []) id = nat_lt d.id.0 id
is_next (d ∷ e ∷ before) id = is_next (e ∷ before) id

-- the external id of a document under a key, where it has one
abbrev pub id_under : List ℕ → Data → Option (List ℕ)
id_under key d = result_ok (external_id_of key d)

-- the external ids of documents that have one
abbrev pub external_ids : List ℕ → List ImageDocument → List (List ℕ)
external_ids key [] = []
external_ids key (d ∷ ds) = unwrap_or (id_under key d.document) [] ∷ external_ids key ds

-- an id that is not taken
abbrev pub is_free : Option (List ℕ) → List (List ℕ) → Bool
is_free None taken = false
is_free (Some id) taken = not (has_name id taken)

-- all these paths are registered
abbrev pub are_registered : List (List ℕ) → List (List ℕ) → Bool
are_registered paths registry = list_all (λ path. has_name path registry) paths

-- the document has an id under the key that is not taken, and its paths are registered
abbrev pub fits : List ℕ → List (List ℕ) → List (List ℕ) → Data → Bool
fits key registry taken d = is_free (id_under key d) taken && are_registered (paths_of d) registry

-- how many documents an index may have: none without a primary key
abbrev pub most_documents : Option (List ℕ) → ℕ
most_documents None = 0
most_documents (Some key) = 1000000

-- how many outcomes a state may have after so many changes
abbrev pub most_outcomes : ℕ → ℕ
most_outcomes changes = min 1000 changes

-- ---- states

-- a primary key is not empty
abbrev pub IsPrimaryKey : Option (List ℕ) → Type 0
IsPrimaryKey None = Unit {0}
IsPrimaryKey (Some key) = 0 < length key

-- a path that does not stand among those before it
abbrev pub IsNew : List (List ℕ) → List ℕ → Type 0
IsNew before path = has_name path before ≡ false

-- a document in its place, with an id and paths that fit
pub record IsPlaced (key : List ℕ) (paths : List (List ℕ)) (next_id : ℕ) (before : List ImageDocument) (d : ImageDocument) : Type 0 where
  pub next : is_next before d.id.0 ≡ true
  pub below : d.id.0 < next_id
  pub fits_in : fits key paths (external_ids key before) d.document ≡ true

pub record IsIndex (before : List IndexData) (i : IndexData) : Type 0 where
  pub uid : is_uid i.uid ≡ true
  pub above : is_above before i.uid ≡ true
  pub key : IsPrimaryKey i.key
  pub next_id : i.next_id ≤ 1000000
  pub few_paths : length i.paths ≤ 1000
  pub paths : EachAfter IsNew [] i.paths
  pub few_documents : length i.documents ≤ most_documents i.key
  pub documents : EachAfter (IsPlaced (unwrap_or i.key []) i.paths i.next_id) [] i.documents

pub record IsState (s : ImageData) : Type 0 where
  pub changes : s.changes ≤ 1000000000
  pub few : length s.indexes ≤ 1000
  pub indexes : EachAfter IsIndex [] s.indexes
  pub few_outcomes : length s.outcomes ≤ most_outcomes s.changes
  pub outcomes : AllByRecursion IsOutcome s.outcomes
