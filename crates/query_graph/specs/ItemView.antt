-- What contracts see of an item of a query.
use Rattle.std.specs.Prelude.{ℕ, Bool, List}

-- its words, whether these were quoted, and whether longer words that begin with its word are meant too
pub record ItemView : Type 0 where
  pub words : List (List ℕ)
  pub phrase : Bool
  pub prefix : Bool
