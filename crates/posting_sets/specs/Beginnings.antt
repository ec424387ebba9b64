-- The documents of which a path begins with some words.
use Rattle.std.specs.Prelude.{◌≡◌, ℕ, List, Some}
use Rattle.std.specs.List.{filter}
use Rattle.search_base.specs.Bucket.{bucket_of}
use Rattle.search_base.specs.TermView.{TermView}
use Rattle.search_base.specs.Whole.{begins_so}
use Rattle.postings.specs.Documents.{Document, places_of}
use Rattle.postings.specs.Dictionary.{PostingsView}
use Rattle.postings.specs.Fresh.{StandsFor}
use Rattle.posting_sets.specs.Numbers.{numbered}
use Rattle.posting_sets.specs.Gathered.{ids_at}

-- those of a universe, for one path
abbrev pub beginning : List Document → List (List ℕ) → List ℕ → ℕ → List ℕ
beginning documents words universe path = filter (λ id. begins_so (places_of id documents) words path) universe

-- these are they by path, whatever documents the postings stand for. Behind the last set no document begins so
abbrev pub AreBeginning : PostingsView → List (List ℕ) → List ℕ → List (List ℕ) → Type 0
AreBeginning view words universe sets = (documents : List Document) → StandsFor view documents
    → (path : ℕ) → ids_at path sets ≡ beginning documents words universe path

-- the documents of a universe in which the term occurs at the beginning of a path, whatever documents the postings
-- stand for: those of bucket 0
abbrev pub AreAtFirst : PostingsView → TermView → List ℕ → List ℕ → Type 0
AreAtFirst view term universe ids = (documents : List Document) → StandsFor view documents
    → ids ≡ numbered documents term (λ place. Some (bucket_of place.position)) universe 0
