-- What words may stand for, by rows of synonyms.
use Rattle.std.specs.Prelude.{ℕ, ◌<◌, Bool, false, List, length, map, filter}
use Rattle.std.specs.Str.{bytes_eq}
use Rattle.std.specs.Cmp.Lexicographic.{pointwise}
use Rattle.search_base.specs.TermView.{TermView}
use Rattle.synonym_terms.specs.SynonymRowView.{SynonymRowView}

-- the row is one that texts are read by: its term has a word
abbrev pub HasTerm : SynonymRowView → Type 0
HasTerm row = 0 < length row.term

-- the key of the row is exactly these words
abbrev pub is_keyed : List (List ℕ) → SynonymRowView → Bool
is_keyed words row = pointwise bytes_eq words row.key

-- the term of the row, all of whose words are meant as they are
abbrev pub term_of : SynonymRowView → TermView
term_of row = record { words = row.term; prefix = false }

-- the terms that these words may stand for
abbrev pub terms_for : List SynonymRowView → List (List ℕ) → List TermView
terms_for rows words = map term_of (filter (is_keyed words) rows)
