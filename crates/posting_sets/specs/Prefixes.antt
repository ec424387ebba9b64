-- The places of the words that begin so, gathered from their lists.
use Rattle.std.specs.Prelude.{◌≡◌, ℕ, Bool, true, ◌||◌, List, [], ◌∷◌, Option, Some}
use Rattle.std.specs.List.{list_any}
use Rattle.search_base.specs.declared.document.Place.{Place}
use Rattle.search_base.specs.Bucket.{bucket_of}
use Rattle.search_base.specs.Occurrence.{words_stand_at}
use Rattle.search_base.specs.TermView.{TermView}
use Rattle.doc_sets.specs.SetView.{SetView}
use Rattle.sorted_pages.specs.Entries.{has}
use Rattle.postings.specs.Dictionary.{PostingsView}
use Rattle.postings.specs.Documents.{Document, AllNarrow, places_of}
use Rattle.postings.specs.Fresh.{StandsFor}
use Rattle.posting_sets.specs.Entries.{document_of, path_of, position_of}
use Rattle.posting_sets.specs.Found.{occurring, term_of}
use Rattle.posting_sets.specs.Numbers.{set_at, numbered, NumbersIncrease, NoneEmpty}

-- the longer lists as they are, and the places of all others in one row
pub record PrefixView : Type 0 where
  pub prefix : List ℕ
  pub long : List (List ℕ)
  pub short : List ℕ

-- one of the rows has the entry
abbrev pub in_rows : PrefixView → ℕ → Bool
in_rows view entry = list_any (λ row. has row entry) view.long || has view.short entry

-- the rows have exactly the places of the documents at which a word begins so
pub record AreGathered (documents : List Document) (view : PrefixView) : Type 0 where
  pub each : (entry : ℕ) → in_rows view entry
      ≡ words_stand_at (places_of (document_of entry) documents) true (path_of entry) (position_of entry) (view.prefix ∷ [])
  pub narrow : AllNarrow documents

-- the same, whatever documents the postings stand for
abbrev pub AreGatheredFrom : PostingsView → PrefixView → Type 0
AreGatheredFrom postings view = (documents : List Document) → StandsFor postings documents → AreGathered documents view

-- the prefix as a term
abbrev pub prefix_term : PrefixView → TermView
prefix_term view = term_of true (view.prefix ∷ [])

-- the documents of a universe in which a word begins so, whatever documents the places are those of
abbrev pub HavePrefix : PrefixView → List ℕ → List ℕ → Type 0
HavePrefix view universe ids =
    (documents : List Document) → AreGathered documents view → ids ≡ occurring documents (prefix_term view) universe

-- the same by the least number of the places where a word begins so
pub record AreNumberedByPrefix (view : PrefixView) (number : Place → Option ℕ) (universe : List ℕ)
    (rows : List (ℕ × SetView)) : Type 0 where
  pub up : NumbersIncrease rows
  pub some : NoneEmpty rows
  pub each : (documents : List Document) → AreGathered documents view
      → (n : ℕ) → set_at n rows ≡ numbered documents (prefix_term view) number universe n

-- those in which a word begins so at the beginning of a path, which are those of bucket 0
abbrev pub HavePrefixAtFirst : PrefixView → List ℕ → List ℕ → Type 0
HavePrefixAtFirst view universe ids = (documents : List Document) → AreGathered documents view
    → ids ≡ numbered documents (prefix_term view) (λ place. Some (bucket_of place.position)) universe 0
