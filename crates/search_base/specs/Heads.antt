-- The head of a word: its first eight bytes as one number.
use Rattle.std.specs.Prelude.{ℕ, zero, suc, ◌+◌, ◌*◌, ◌^◌, ◌<◌, List, [], ◌∷◌, slice_index}

-- the first n bytes as digits to base 256, the first byte highest, with zeros where there are fewer
unfoldable pub head_from : ℕ → List ℕ → ℕ
head_from zero bytes = 0
head_from (suc n) [] = 0
head_from (suc n) (b ∷ bytes) = b * 256 ^ n + head_from n bytes

abbrev pub head_of : List ℕ → ℕ
head_of bytes = head_from 8 bytes

-- each number of the list is a byte
abbrev pub AreBytes : List ℕ → Type 0
AreBytes bytes = (k : ℕ) → slice_index bytes k < 256
