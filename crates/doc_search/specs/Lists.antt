-- What the conditions of a search are asked of.
use Rattle.std.specs.Prelude.{ℕ, List, Option}
use Rattle.postings.specs.Dictionary.{PostingsView}

-- posting lists, and the ranks of paths by their numbers
pub record ListsView : Type 0 where
  pub postings : PostingsView
  pub ranks : List (Option ℕ)
