-- Where bytes are damaged, nothing is spelled so far: no spelling agrees with the bytes through the field that stands at
-- the place of the damage.
use Rattle.std.specs.Prelude.{◌≡◌, ◌<◌, ◌^◌, ℕ, ◌+◌, ◌-◌, List, length, Err}
use Rattle.document_changes.specs.Changes.{ChangeData}
use Rattle.change_payloads.specs.Change.{Spot, change_at}
use Rattle.change_payloads.specs.Fits.{IsChange}
use Rattle.change_payloads.specs.Spelling.{change}
use Rattle.index_image.specs.Fits.{HasImage}
use Rattle.index_image.specs.Image.{state_at}
use Rattle.index_image.specs.Layout.{IsSpelled}
use Rattle.index_image.specs.Rows.{ImageData}
use Rattle.index_image.specs.State.{IsState}
use Rattle.change_journal.specs.Format.{walk, end_of}
use Rattle.damage_laws.specs.Agrees.{AgreesThrough, joined}
use Rattle.damage_laws.specs.Fields.{change_fields, AreFields}
use Rattle.damage_laws.specs.Journal.{Entry, journal_fields, AreEntries}

abbrev pub NoChangeIsSpelledSoFar : Type 0
NoChangeIsSpelledSoFar = (bytes : List ℕ) (damage : Spot) (c : ChangeData) → change_at bytes ≡ Err damage → IsChange c
    → AgreesThrough damage.place (change_fields c) bytes → ⊥

abbrev pub NoStateIsSpelledSoFar : Type 0
NoStateIsSpelledSoFar = (bytes : List ℕ) (damage : Spot) (s : ImageData) (fields : List (List ℕ)) → state_at bytes ≡ Err damage
    → IsState s → HasImage s → AreFields fields s → AgreesThrough damage.place fields bytes → ⊥

-- the same of a journal whose first gate stands at a place, behind so many changes
abbrev pub NoEntryIsSpelledSoFar : Type 0
NoEntryIsSpelledSoFar = (at n damage : ℕ) (bytes : List ℕ) (entries : List Entry) (behind : List ℕ)
    → end_of (walk 0 at n bytes) ≡ Err damage → AreEntries entries → n + length entries < 2 ^ 64
    → AgreesThrough (damage - at) (journal_fields n entries behind) bytes → ⊥

-- ---- the fields, one after the other, are the spelling

abbrev pub FieldsSpellChanges : Type 0
FieldsSpellChanges = (c : ChangeData) → joined (change_fields c) ≡ change c

abbrev pub FieldsSpellStates : Type 0
FieldsSpellStates = (s : ImageData) (fields : List (List ℕ)) → AreFields fields s → IsSpelled (joined fields) s
