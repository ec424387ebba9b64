-- What contracts see of one of several searches.
use Rattle.std.specs.Prelude.{ℕ, List}
use Rattle.search_call.specs.SearchView.{SearchView}

-- a search, and the uid of the index that is searched
pub record MultiData : Type 0 where
  pub uid : List ℕ
  pub call : SearchView
