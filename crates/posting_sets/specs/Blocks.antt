-- The numbers of documents, in the words of a block's costs.
use Rattle.std.specs.Prelude.{◌≡◌, ℕ, ◌==◌, ◌&&◌, List, Option, Some}
use Rattle.std.specs.List.{filter, AllByRecursion}
use Rattle.search_base.specs.declared.document.Place.{Place}
use Rattle.search_base.specs.BlockCosts.{least_rank, least_bucket}
use Rattle.search_base.specs.Bucket.{bucket_of}
use Rattle.search_base.specs.Occurrence.{occurs}
use Rattle.search_base.specs.TermView.{TermView}
use Rattle.postings.specs.Documents.{Document, places_of}
use Rattle.posting_sets.specs.Numbers.{rank_at, numbered}

-- each place of the documents has the rank of its path
abbrev pub HaveRanks : List (Option ℕ) → List Document → Type 0
HaveRanks ranks documents = AllByRecursion
    (λ document. AllByRecursion (λ place. rank_at ranks place.path.0 ≡ Some place.rank) document.places) documents

-- the documents of a universe in which the term occurs, and where it costs n
abbrev pub costing : (List Place → TermView → ℕ) → List Document → TermView → List ℕ → ℕ → List ℕ
costing cost documents term universe n =
    filter (λ id. occurs (places_of id documents) term && (cost (places_of id documents) term == n)) universe

-- the documents of a number are those where the cost of the term's block is made of it
pub record AreOfBlocks : Type 0 where
  pub rank : (ranks : List (Option ℕ)) (documents : List Document) → HaveRanks ranks documents
      → (term : TermView) (universe : List ℕ) (n : ℕ)
      → numbered documents term (λ place. rank_at ranks place.path.0) universe n
      ≡ costing least_rank documents term universe n
  pub bucket : (documents : List Document) (term : TermView) (universe : List ℕ) (n : ℕ)
      → numbered documents term (λ place. Some (bucket_of place.position)) universe n
      ≡ costing least_bucket documents term universe n
