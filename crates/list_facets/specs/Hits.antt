-- The documents of a list that are in a set.
use Rattle.std.specs.Prelude.{◌≡◌, ℕ, ◌*◌, ◌/◌, ◌^◌, true, List, length, map, slice_get}
use Rattle.std.specs.Option.{option_map}
use Rattle.sorted_pages.specs.Entries.{has}
use Rattle.list_facets.specs.declared.hits.Hits.{Hits}

-- the documents of entries
abbrev pub ids_of : List ℕ → List ℕ
ids_of entries = map (λ entry. entry / 2 ^ 32) entries

-- as many as these documents, and the first of them
pub record AreHits (hits : Hits) (ids : List ℕ) : Type 0 where
  pub count : hits.count ≡ length ids
  pub first : option_map (λ id. id.0) hits.first ≡ slice_get ids 0

-- each entry is of a document as a whole
abbrev pub IsWhole : List ℕ → Type 0
IsWhole entries = (entry : ℕ) → has entries entry ≡ true → (id : ℕ) × (entry ≡ id * 2 ^ 32)
