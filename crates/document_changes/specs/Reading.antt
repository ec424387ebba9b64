-- Documents that are read one after the other.
use Rattle.std.specs.Prelude.{◌≡◌, true, List, [], ◌∷◌, ◌++◌, Option, None, Some}
use Rattle.serde_json.specs.Data.{Data}
use Rattle.path_registry.specs.Met.{AreMet}
use Rattle.document_changes.specs.declared.reading.DocumentReading.{DocumentReading}
use Rattle.document_changes.specs.declared.reading.Noting.{Noting}
use Rattle.document_changes.specs.Notes.{AreIdsUnder, FirstGives}

-- what is noted so far is noted of these documents
pub record IsNoting (documents : List Data) (n : Noting) : Type 0 where
  pub ids : AreIdsUnder n.key documents n.ids.items
  pub first : n.inferred ≡ true → FirstGives n.key documents
  pub paths : AreMet documents n.paths

-- the same, if anything is noted
abbrev pub AreNoting : List Data → Option Noting → Type 0
AreNoting documents None = Unit {0}
AreNoting documents (Some n) = IsNoting documents n

-- before the first document nothing is noted
abbrev pub IsReading : DocumentReading → Type 0
IsReading r = AreNoting r.texts.items r.notes

-- what is noted so far is noted of these documents, and its key already fits the document that comes next
pub record IsReady (documents : List Data) (next : Data) (n : Noting) : Type 0 where
  pub ids : AreIdsUnder n.key documents n.ids.items
  pub first : n.inferred ≡ true → FirstGives n.key (documents ++ next ∷ [])
  pub paths : AreMet documents n.paths

-- the same, if anything is noted
abbrev pub AreReady : List Data → Data → Option Noting → Type 0
AreReady documents next None = Unit {0}
AreReady documents next (Some n) = IsReady documents next n
