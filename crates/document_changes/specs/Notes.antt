-- What is noted of documents that come, while they are read.
use Rattle.std.specs.Prelude.{◌≡◌, ℕ, true, List, [], ◌∷◌, map, Option, None, Some, Ok}
use Rattle.serde_json.specs.Data.{Data}
use Rattle.doc_values.specs.Ids.{external_id_of, key_of}
use Rattle.path_registry.specs.Met.{all_registered}
use Rattle.document_changes.specs.declared.notes.Notes.{Notes}

-- the external id of each document under a key
abbrev pub AreIdsUnder : List ℕ → List Data → List (List ℕ) → Type 0
AreIdsUnder key documents ids = map (external_id_of key) documents ≡ map Ok ids

-- the key that the first document gives
abbrev pub FirstGives : List ℕ → List Data → Type 0
FirstGives key [] = ⊥
FirstGives key (d ∷ documents) = key_of d ≡ Ok key

-- these are the notes on documents
pub record AreNotesOn (documents : List Data) (n : Notes) : Type 0 where
  pub ids : AreIdsUnder n.key documents n.ids.items
  pub first : n.inferred ≡ true → FirstGives n.key documents
  pub paths : n.paths.items ≡ all_registered documents []

-- whatever was noted is noted of these documents
abbrev pub AreRight : List Data → Option Notes → Type 0
AreRight documents None = Unit {0}
AreRight documents (Some n) = AreNotesOn documents n
