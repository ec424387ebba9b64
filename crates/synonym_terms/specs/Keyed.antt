-- Where the rows of a key stand.
use Rattle.std.specs.Prelude.{◌≡◌, ℕ, ◌+◌, List, [], ◌∷◌, Vec, if◌then◌else◌}
use Rattle.std.specs.List.{AllByRecursion}
use Rattle.std.specs.Option.{option_map_or}
use Rattle.std.specs.BTreeMap.{BTreeMap, get_by}
use Rattle.std.specs.Cmp.Lexicographic.{slice_cmp}
use Rattle.std.specs.Ordering.{nat_cmp}
use Rattle.synonym_terms.specs.SynonymRowView.{SynonymRowView}
use Rattle.synonym_terms.specs.Synonyms.{HasTerm, is_keyed}

-- the numbers of a key: none where the map does not have it
abbrev pub numbers_at : {A B : Type 0} → BTreeMap (Vec (List ℕ) A) (Vec ℕ B) → List (List ℕ) → List ℕ
numbers_at numbers words =
    option_map_or (λ list. list.items) (get_by (λ key. slice_cmp (slice_cmp nat_cmp) words key.items) numbers) []

-- the numbers of the rows whose key is these words, where the first of the rows has this number
abbrev pub numbers_of : List (List ℕ) → ℕ → List SynonymRowView → List ℕ
numbers_of words n [] = []
numbers_of words n (row ∷ rows) =
    if is_keyed words row then n ∷ numbers_of words (n + 1) rows else numbers_of words (n + 1) rows

-- each row has a word, and the map has the numbers of the rows of each key
pub record IsTable {A B : Type 0} (rows : List SynonymRowView) (numbers : BTreeMap (Vec (List ℕ) A) (Vec ℕ B))
    : Type 0 where
  pub words : AllByRecursion HasTerm rows
  pub keyed : (words : List (List ℕ)) → numbers_at numbers words ≡ numbers_of words 0 rows
