-- What a read and a write do to the bytes of a link, where it tells them.
use Rattle.std.specs.Prelude.{◌≡◌, ℕ, ◌<◌, ◌≤◌, List, [], length, take, Option, Some, None, Result, MatchResult}
use Rattle.std.specs.Io.KnownBytes.{prepend_known, append_known}

-- bytes that a link tells: the front of what was left before, and what is left after. Whether it tells them stays.
abbrev pub Given : Option (List ℕ) → Option (List ℕ) → List ℕ → Type 0
Given before after bytes = before ≡ prepend_known bytes after

-- no byte is left, where the bytes are told
abbrev pub IsSpent : Option (List ℕ) → Type 0
IsSpent None = Unit {0}
IsSpent (Some bytes) = bytes ≡ []

-- a read that gives n bytes takes them from the front, and gives none exactly at the end; a read that fails takes none
abbrev pub Reads : {E : Type 0} → Option (List ℕ) → Option (List ℕ) → Result ℕ E → List ℕ → Type 0
Reads before after result into =
    MatchResult result (λ n. (n ≤ length into) × Given before after (take n into) × (n ≡ 0 → IsSpent before)) (λ _. after ≡ before)

-- a write that takes n bytes adds them at the end; a write that fails adds none
abbrev pub Writes : {E : Type 0} → Option (List ℕ) → Option (List ℕ) → Result ℕ E → List ℕ → Type 0
Writes before after result piece =
    MatchResult result (λ n. (0 < n) × (n ≤ length piece) × (after ≡ append_known before (take n piece))) (λ _. after ≡ before)
