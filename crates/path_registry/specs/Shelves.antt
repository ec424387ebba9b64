-- Names on shelves, one shelf for each length of a name.
use Rattle.std.specs.Prelude.{ℕ, ◌≡◌, true, List, [], ◌∷◌, ◌++◌, length}
use Rattle.std.specs.Option.{unwrap_or}
use Rattle.std.specs.Ordering.{nat_cmp}
use Rattle.std.specs.BTreeMap.{BTreeMap, get, IsOrdered}
use Rattle.path_registry.specs.Names.{Names, is_kept}

-- the shelves by the length of their names
abbrev pub Shelves : Type 0
Shelves = BTreeMap ℕ Names

-- the names on the shelf of a length, none where there is no such shelf
abbrev pub names_at : ℕ → Shelves → Names
names_at n shelves = unwrap_or (get nat_cmp shelves n) []

-- the names on all shelves
abbrev pub names_on : List (ℕ × Names) → Names
names_on [] = []
names_on (shelf ∷ shelves) = shelf.1 ++ names_on shelves

-- there is one shelf for a length, and each name stands on that of its length
pub record AreShelved (shelves : Shelves) : Type 0 where
  pub ordered : IsOrdered nat_cmp shelves
  pub lengths : (n : ℕ) (name : List ℕ) → is_kept name (names_at n shelves) ≡ true → length name ≡ n
