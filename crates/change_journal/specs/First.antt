-- The payloads with which a journal begins, and the bytes that they are behind an image.
use Rattle.std.specs.Prelude.{◌≡◌, ◌<◌, ◌≤◌, ◌^◌, ℕ, ◌+◌, List, [], ◌∷◌, ◌++◌, length}
use Rattle.std.specs.Int.{w32, w64, to_le_bytes}
use Rattle.change_journal.specs.Format.{walk, payloads}

-- the payloads in order, and the number of the first
pub record First : Type 0 where
  pub number : ℕ
  pub payloads : List (List ℕ)

abbrev pub record_bytes : ℕ → List ℕ → List ℕ
record_bytes n bytes = to_le_bytes w64 n ++ (to_le_bytes w32 (length bytes) ++ bytes)

-- each record behind an open gate
abbrev pub open_bytes : ℕ → List (List ℕ) → List ℕ
open_bytes n [] = []
open_bytes n (bytes ∷ more) = 1 ∷ (record_bytes n bytes ++ open_bytes (n + 1) more)

-- a journal of payloads, the first with the number n: a shut gate stands behind its records
abbrev pub journal_bytes : ℕ → List (List ℕ) → List ℕ
journal_bytes n all = open_bytes n all ++ 0 ∷ []

-- the length of each has four bytes
abbrev pub AreShort : List (List ℕ) → Type 0
AreShort [] = Unit {0}
AreShort (bytes ∷ more) = (length bytes < 2 ^ 32) × AreShort more

-- a journal without a payload is kept as no bytes
abbrev pub gate_or : List ℕ → List ℕ
gate_or [] = 0 ∷ []
gate_or (gate ∷ bytes) = gate ∷ bytes

-- what the bytes that are kept of such a journal stand for
abbrev pub first_in : ℕ → List ℕ → First
first_in n bytes = record { number = n; payloads = payloads (walk 0 0 n (gate_or bytes)) }

pub record IsFirst (n : ℕ) (bytes : List ℕ) (count : ℕ) : Type 0 where
  pub is : gate_or bytes ≡ journal_bytes n (first_in n bytes).payloads
  pub short : AreShort (first_in n bytes).payloads
  pub counted : count ≡ length (first_in n bytes).payloads
  pub small : n + count ≤ 2 ^ 64
