-- The documents of each whole cost.
use Rattle.std.specs.Prelude.{◌≡◌, ℕ, ◌+◌, ◌==◌, Bool, false, ◌&&◌, ◌||◌, List, [], ◌∷◌}
use Rattle.std.specs.List.{filter, list_any}
use Rattle.search_base.specs.Whole.{whole_cost}
use Rattle.doc_sets.specs.Sets.{has}
use Rattle.doc_sets.specs.SetView.{SetView}
use Rattle.postings.specs.Documents.{Document, places_of}
use Rattle.postings.specs.Dictionary.{PostingsView}
use Rattle.postings.specs.Fresh.{StandsFor}
use Rattle.path_lengths.specs.Lengths.{has_length}
use Rattle.path_lengths.specs.Measured.{AreLengthsOf}

-- the documents of a universe at a cost
abbrev pub at_cost : List Document → List (List ℕ) → ℕ → List ℕ → List ℕ
at_cost documents words cost universe = filter (λ id. whole_cost (places_of id documents) words == cost) universe

-- these are they, whatever documents the postings and the lengths stand for
abbrev pub AreAtCost : PostingsView → PostingsView → List (List ℕ) → ℕ → List ℕ → List ℕ → Type 0
AreAtCost postings lengths words cost universe ids = (documents : List Document) → StandsFor postings documents
    → AreLengthsOf lengths documents → ids ≡ at_cost documents words cost universe

-- the document is in the set of a path that has this length in it. The first set is that of `path`, and so on
abbrev pub is_as_long : List Document → ℕ → ℕ → List SetView → ℕ → Bool
is_as_long documents length path [] id = false
is_as_long documents length path (set ∷ sets) id =
    (has_length (places_of id documents) path length && has set.ids id) || is_as_long documents length (path + 1) sets id

-- one of the sets has the document
abbrev pub is_in_some : List SetView → ℕ → Bool
is_in_some sets id = list_any (λ set. has set.ids id) sets
