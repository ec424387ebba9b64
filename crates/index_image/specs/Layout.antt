-- The one spelling of each state. Numbers are little-endian.
use Rattle.std.specs.Prelude.{◌≡◌, ◌⊎◌, ℕ, List, [], ◌∷◌, ◌++◌, length}
use Rattle.std.specs.Int.{w32, w64, to_le_bytes}
use Rattle.std.specs.List.{flat_map}
use Rattle.serde_json.specs.Written.{compact_text}
use Rattle.index_settings.specs.View.{SettingsView}
use Rattle.index_settings.specs.Json.{settings_data}
use Rattle.index_image.specs.declared.rows.ImageDocument.{ImageDocument}
use Rattle.index_image.specs.Outcomes.{outcome_bytes}
use Rattle.index_image.specs.Rows.{IndexData, ImageData}
use Rattle.change_payloads.specs.Spelling.{text, optional}

-- a length of eight bytes, and that many bytes
abbrev pub long : List ℕ → List ℕ
long bytes = to_le_bytes w64 (length bytes) ++ bytes

-- the text as which settings are printed
abbrev pub settings_text : SettingsView → List ℕ
settings_text s = compact_text (settings_data s)

-- the internal id, and the compact text
abbrev pub document_bytes : ImageDocument → List ℕ
document_bytes d = to_le_bytes w32 d.id.0 ++ long (compact_text d.document)

-- the number of members in four bytes, and the members
abbrev pub list_bytes : {A : Type 0} → (A → List ℕ) → List A → List ℕ
list_bytes spelled xs = to_le_bytes w32 (length xs) ++ flat_map spelled xs

-- the uid, the primary key, the next internal id, the paths, the settings, and the documents
abbrev pub index_bytes : IndexData → List ℕ
index_bytes i =
    text i.uid ++ (optional i.key ++ (to_le_bytes w32 i.next_id ++ (list_bytes text i.paths ++ (long (settings_text i.settings) ++ list_bytes document_bytes i.documents))))

-- version 2: the count of changes, the indexes, and the outcomes
abbrev pub image_bytes : ImageData → List ℕ
image_bytes s = 2 ∷ (to_le_bytes w64 s.changes ++ (list_bytes index_bytes s.indexes ++ list_bytes outcome_bytes s.outcomes))

-- version 1, which has no outcomes
abbrev pub first_image_bytes : ImageData → List ℕ
first_image_bytes s = 1 ∷ (to_le_bytes w64 s.changes ++ list_bytes index_bytes s.indexes)

-- the bytes spell the state in one of the two versions
abbrev pub IsSpelled : List ℕ → ImageData → Type 0
IsSpelled bytes s = (bytes ≡ image_bytes s) ⊎ ((s.outcomes ≡ []) × (bytes ≡ first_image_bytes s))
