-- What contracts see of a row of synonyms.
use Rattle.std.specs.Prelude.{ℕ, List}

-- the words of its key, and the words of the text that the key may stand for
pub record SynonymRowView : Type 0 where
  pub key : List (List ℕ)
  pub term : List (List ℕ)
