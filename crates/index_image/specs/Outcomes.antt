-- The outcomes of finished tasks, which stand at the end of an image.
use Rattle.std.specs.Prelude.{◌≡◌, ℕ, ◌<◌, ◌≤◌, ◌==◌, ◌&&◌, ◌||◌, Bool, true, List, [], ◌∷◌, ◌++◌, nat_le}
use Rattle.search_base.specs.declared.outcome.OutcomeRow.{OutcomeRow}
use Rattle.doc_values.specs.Ids.{is_uid}
use Rattle.change_payloads.specs.Fits.{IsText}
use Rattle.change_payloads.specs.Spelling.{text}

-- 0 where the task succeeded, or the number of a refusal by which a task fails
abbrev pub is_row : ℕ → Bool
is_row row = row == 0 || row == 23 || row == 24 || (nat_le 26 row && nat_le row 30) || (nat_le 32 row && nat_le row 34)

-- the byte of the kind, the uid, and the row
abbrev pub outcome_bytes : OutcomeRow → List ℕ
outcome_bytes o = o.kind ∷ (text o.uid ++ o.row ∷ [])

-- an outcome that an image may hold: one of the eight kinds, a valid uid, and a row
pub record IsOutcome (o : OutcomeRow) : Type 0 where
  pub some_kind : 0 < o.kind
  pub known_kind : o.kind ≤ 8
  pub uid : is_uid o.uid ≡ true
  pub row : is_row o.row ≡ true

abbrev pub HasOutcomeText : OutcomeRow → Type 0
HasOutcomeText o = IsText o.uid
