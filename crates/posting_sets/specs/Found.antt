-- The documents in which a term occurs.
use Rattle.std.specs.Prelude.{◌≡◌, ℕ, Bool, true, ◌==◌, ◌&&◌, List, [], ◌∷◌, length}
use Rattle.std.specs.List.{AllPass, filter, list_any}
use Rattle.doc_sets.specs.Sets.{has, IsIncreasing}
use Rattle.search_base.specs.Occurrence.{occurs}
use Rattle.search_base.specs.TermView.{TermView}
use Rattle.postings.specs.Documents.{Document, places_of}
use Rattle.postings.specs.Dictionary.{PostingsView, list_at}
use Rattle.postings.specs.Fresh.{StandsFor}
use Rattle.posting_sets.specs.Entries.{document_of}
use Rattle.posting_sets.specs.Starts.{is_start, is_inside}

-- one of the entries is of this document
abbrev pub has_document : List ℕ → ℕ → Bool
has_document entries id = list_any (λ entry. document_of entry == id) entries

-- the documents of a universe in which a term occurs
abbrev pub occurring : List Document → TermView → List ℕ → List ℕ
occurring documents term universe = filter (λ id. occurs (places_of id documents) term) universe

-- these are they, whatever documents the postings stand for
abbrev pub AreOccurring : PostingsView → TermView → List ℕ → List ℕ → Type 0
AreOccurring view term universe ids =
    (documents : List Document) → StandsFor view documents → ids ≡ occurring documents term universe

-- some entry of a document of the set is a start, and passes a test
pub record Finds (ids : List ℕ) (start test : ℕ → Bool) (b : Bool) : Type 0 where
  pub found : b ≡ true → (entry : ℕ) × (is_inside ids entry ≡ true) × (start entry ≡ true) × (test entry ≡ true)
  pub from : (entry : ℕ) → is_inside ids entry ≡ true → start entry ≡ true → test entry ≡ true → b ≡ true

-- the documents of a universe in which the words of these lists stand in a row
pub record AreInLists (universe : List ℕ) (lists : List (List ℕ)) (ids : List ℕ) : Type 0 where
  pub up : IsIncreasing ids
  pub each : (id : ℕ) → Finds universe (is_start lists) (λ entry. document_of entry == id) (has ids id)

-- one word, or all words that begin so
abbrev pub term_of : Bool → List (List ℕ) → TermView
term_of prefix words = record { words = words; prefix = prefix }

-- these are exactly the documents of the list of the words, which are one
abbrev pub IsKeptOf : PostingsView → List (List ℕ) → List ℕ → Type 0
IsKeptOf view (word ∷ []) ids = (id : ℕ) → has ids id ≡ has_document (list_at word view) id
IsKeptOf view words ids = ⊥

-- a part of a universe, with each of its documents that has an entry in the lists of all words
pub record IsNarrowed (view : PostingsView) (words : List (List ℕ)) (universe ids : List ℕ) : Type 0 where
  pub within : (id : ℕ) → has ids id ≡ true → has universe id ≡ true
  pub each : (id : ℕ) → has universe id ≡ true → AllPass (λ word. has_document (list_at word view) id) words
      → has ids id ≡ true

-- one of the words has no list
abbrev pub lacks_list : PostingsView → List (List ℕ) → Bool
lacks_list view words = list_any (λ word. length (list_at word view) == 0) words
