-- Keys in a row.
use Rattle.std.specs.Prelude.{◌≡◌, ℕ, true, Bool, ◌&&◌, List}
use Rattle.std.specs.List.{list_any}
use Rattle.std.specs.Ordering.{is_le}
use Rattle.postings.specs.Dictionary.{PostingsView, word_cmp, list_at}
use Rattle.facet_index.specs.Places.{has_document}

-- from the one key to the other, both among them
abbrev pub is_inside : List ℕ → List ℕ → List ℕ → Bool
is_inside first last key = is_le (word_cmp first key) && is_le (word_cmp key last)

-- whether one of the keys up to the last has the document in its list
abbrev pub is_listed : List ℕ → ℕ → List (List ℕ × List ℕ) → Bool
is_listed last id rows = list_any (λ row. is_le (word_cmp row.0 last) && has_document id row.1) rows

-- the test passes the documents of the lists of keys from the first to the last, and no others
pub record PassesInside (first last : List ℕ) (view : PostingsView) (passes : ℕ → Bool) : Type 0 where
  pub found : (id : ℕ) (key : List ℕ) → is_inside first last key ≡ true → has_document id (list_at key view) ≡ true → passes id ≡ true
  pub only : (id : ℕ) → passes id ≡ true
      → (key : List ℕ) × (is_inside first last key ≡ true) × (has_document id (list_at key view) ≡ true)
