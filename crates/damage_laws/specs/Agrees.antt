-- Bytes beside the fields of a spelling.
use Rattle.std.specs.Prelude.{◌≡◌, ◌≤◌, ◌-◌, ℕ, List, [], ◌∷◌, ◌++◌, length}

-- fields one after the other
abbrev pub joined : List (List ℕ) → List ℕ
joined [] = []
joined (field ∷ fields) = field ++ joined fields

-- The bytes begin with these fields, up to and with the one in which the byte at this place stands. Behind the last
-- field the bytes end.
abbrev pub AgreesThrough : ℕ → List (List ℕ) → List ℕ → Type 0
AgreesThrough place [] bytes = bytes ≡ []
AgreesThrough place (field ∷ fields) bytes = (rest : List ℕ) × (bytes ≡ field ++ rest)
    × (length field ≤ place → AgreesThrough (place - length field) fields rest)
