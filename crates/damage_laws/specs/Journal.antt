-- The fields of a journal.
use Rattle.std.specs.Prelude.{◌≢◌, ◌<◌, ◌^◌, ℕ, ◌+◌, List, [], ◌∷◌, length}
use Rattle.std.specs.Int.{w64, to_le_bytes}
use Rattle.change_payloads.specs.Spelling.{text}

-- an open gate, and the payload of the change behind it
pub record Entry : Type 0 where
  pub gate : ℕ
  pub payload : List ℕ

-- each with the number of its change, where so many came before; at the end a shut gate, and whatever stands behind it
abbrev pub journal_fields : ℕ → List Entry → List ℕ → List (List ℕ)
journal_fields n [] behind = (0 ∷ behind) ∷ []
journal_fields n (e ∷ es) behind =
    (e.gate ∷ []) ∷ to_le_bytes w64 n ∷ text e.payload ∷ journal_fields (n + 1) es behind

-- an open gate is not 0, and the length of a payload has four bytes
abbrev pub AreEntries : List Entry → Type 0
AreEntries [] = Unit {0}
AreEntries (e ∷ es) = (e.gate ≢ 0) × (length e.payload < 2 ^ 32) × AreEntries es
