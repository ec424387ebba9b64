-- The documents of a set.
use Rattle.std.specs.Prelude.{◌≡◌, ℕ, List}
use Rattle.doc_sets.specs.Sets.{has}

-- what contracts see of them
pub record MatchView : Type 0 where
  pub ids : List ℕ

-- two lists have the same members
abbrev pub HasSame : List ℕ → List ℕ → Type 0
HasSame xs ys = (d : ℕ) → has xs d ≡ has ys d
