-- Names of few bytes, which stand as numbers on the shelf of their length.
use Rattle.std.specs.Prelude.{ℕ, zero, suc, ◌≡◌, ◌/◌, ◌%◌, ◌^◌, ◌==◌, ◌&&◌, nat_lt, Bool, true, false, List, [], ◌∷◌, ◌++◌, length, Option, None, Some, if◌then◌else◌}
use Rattle.search_base.specs.Heads.{head_from}
use Rattle.path_registry.specs.Names.{Names, is_kept}

-- whether names of a length stand as numbers: those of 1 to 8 bytes
abbrev pub is_short : ℕ → Bool
is_short n = nat_lt 0 n && nat_lt n 9

-- whether a name stands as a number on the shelf of a length
abbrev pub stands_short : ℕ → List ℕ → Bool
stands_short n name = is_short n && (length name == n)

-- the number that a name stands as there
abbrev pub short_key : ℕ → List ℕ → Option ℕ
short_key n name = if stands_short n name then Some (head_from n name) else None

-- the digits of a number to the base 256, the highest first
unfoldable pub name_of : ℕ → ℕ → List ℕ
name_of zero key = []
name_of (suc n) key = key / 256 ^ n ∷ name_of n (key % 256 ^ n)

-- the names of a length that stand as numbers
abbrev pub short_names : ℕ → List (ℕ × Option ℕ) → Names
short_names n [] = []
short_names n (e ∷ es) = (name_of n e.0, e.1) ∷ short_names n es

-- all names on the shelf of a length
abbrev pub names_of : ℕ → List (ℕ × Option ℕ) → Names → Names
names_of n short others = (if is_short n then short_names n short else []) ++ others

-- no other name could stand as a number
abbrev pub AreOthers : ℕ → Names → Type 0
AreOthers n others = (name : List ℕ) → is_kept name others ≡ true → stands_short n name ≡ false
