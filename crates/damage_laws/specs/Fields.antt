-- The fields of a change and of a state as they are spelled. A text or a value is one field with its length.
use Rattle.std.specs.Prelude.{◌≡◌, ◌⊎◌, ℕ, List, [], ◌∷◌, ◌++◌, length, map, Option, Some, None}
use Rattle.std.specs.Int.{w32, w64, to_le_bytes}
use Rattle.std.specs.List.{flat_map}
use Rattle.serde_json.specs.Data.{Data}
use Rattle.serde_json.specs.Written.{compact_text}
use Rattle.search_base.specs.declared.outcome.OutcomeRow.{OutcomeRow}
use Rattle.document_changes.specs.Changes.{KindData, create, drop_index, replace, update, remove, clear, patch, reset, ChangeData}
use Rattle.change_payloads.specs.Spelling.{text, json, texts_data, kind_byte}
use Rattle.index_image.specs.declared.rows.ImageDocument.{ImageDocument}
use Rattle.index_image.specs.Layout.{long, settings_text}
use Rattle.index_image.specs.Rows.{IndexData, ImageData}

-- ---- a change

-- one byte, and the text if there is one
abbrev pub optional_fields : Option (List ℕ) → List (List ℕ)
optional_fields None = (0 ∷ []) ∷ []
optional_fields (Some key) = (1 ∷ []) ∷ text key ∷ []

-- their number, and each
abbrev pub documents_fields : List Data → List (List ℕ)
documents_fields ds = to_le_bytes w32 (length ds) ∷ map json ds

abbrev pub body_fields : KindData → List (List ℕ)
body_fields (create key) = optional_fields key
body_fields drop_index = []
body_fields (replace key ds) = optional_fields key ++ documents_fields ds
body_fields (update key ds) = optional_fields key ++ documents_fields ds
body_fields (remove ids) = json (texts_data ids) ∷ []
body_fields clear = []
body_fields (patch members) = json members ∷ []
body_fields reset = []

abbrev pub change_fields : ChangeData → List (List ℕ)
change_fields c = (kind_byte c.kind ∷ []) ∷ text c.uid ∷ body_fields c.kind

-- ---- a state

-- the number of members, and the fields of each
abbrev pub list_fields : {A : Type 0} → (A → List (List ℕ)) → List A → List (List ℕ)
list_fields fields xs = to_le_bytes w32 (length xs) ∷ flat_map fields xs

abbrev pub path_fields : List ℕ → List (List ℕ)
path_fields path = text path ∷ []

abbrev pub document_fields : ImageDocument → List (List ℕ)
document_fields d = to_le_bytes w32 d.id.0 ∷ long (compact_text d.document) ∷ []

abbrev pub index_fields : IndexData → List (List ℕ)
index_fields i =
    text i.uid ∷ (optional_fields i.key ++ (to_le_bytes w32 i.next_id ∷ (list_fields path_fields i.paths ++ (long (settings_text i.settings) ∷ list_fields document_fields i.documents))))

-- one byte, the uid, and one byte
abbrev pub outcome_fields : OutcomeRow → List (List ℕ)
outcome_fields o = (o.kind ∷ []) ∷ text o.uid ∷ (o.row ∷ []) ∷ []

-- version 2
abbrev pub image_fields : ImageData → List (List ℕ)
image_fields s = (2 ∷ []) ∷ to_le_bytes w64 s.changes ∷ (list_fields index_fields s.indexes ++ list_fields outcome_fields s.outcomes)

-- version 1, which has no outcomes
abbrev pub first_image_fields : ImageData → List (List ℕ)
first_image_fields s = (1 ∷ []) ∷ to_le_bytes w64 s.changes ∷ list_fields index_fields s.indexes

-- these are the fields of the state in one of the two versions
abbrev pub AreFields : List (List ℕ) → ImageData → Type 0
AreFields fields s = (fields ≡ image_fields s) ⊎ ((s.outcomes ≡ []) × (fields ≡ first_image_fields s))
