-- The documents for which an index stands, before and after a change.
use Rattle.std.proofs.Common.{◌≡◌, ℕ, not, ◌&&◌, ◌||◌, List, map, sym, ap, ◌∙◌}
use Rattle.doc_sets.specs.Sets as sets
use Rattle.sorted_pages.specs.Entries.{has}
use Rattle.postings.specs.Dictionary.{PostingsView, list_at}
use Rattle.postings.specs.Documents.{Document}
use Rattle.postings.specs.Fresh as postings
use Rattle.path_lengths.specs.Measured.{AreLengthsOf}
use Rattle.facet_index.specs.Places.{IsIndexOf}
use Rattle.leaf_table.specs.Tables.{AreLeavesOf}
use Rattle.row_index.specs.Documents.{IndexedDocument, has_id, after}
use Rattle.row_index.specs.Standing.{RowIndexView, StandsFor, placed, faceted}
use Rattle.row_index.specs.Changes.{PreparedView, IsPreparedOf, AnswersAsBefore}
use Rattle.row_index.proofs.IdLemmas.{has_after}

lists_stand : (old new : PostingsView) (documents : List Document) → ((word : List ℕ) → list_at word new ≡ list_at word old)
    → postings.StandsFor old documents → postings.StandsFor new documents
lists_stand old new documents same stood = record {
  each = λ word entry. ap (λ list. has list entry) (same word) ∙ stood.each word entry;
  narrow = stood.narrow;
  apart = stood.apart;
}

-- an index with the same answers
pub stands_as_before : (old new : RowIndexView) (documents : List IndexedDocument) → AnswersAsBefore old new
    → StandsFor old documents → StandsFor new documents
stands_as_before old new documents same stood = record {
  places = lists_stand old.places new.places (map placed documents) same.places stood.places;
  lengths = record {
    keys = lists_stand old.lengths new.lengths _ same.lengths stood.lengths.keys;
    narrow = stood.lengths.narrow;
  };
  facets = record {
    keys = lists_stand old.facets new.facets _ same.facets stood.facets.keys;
    narrow = stood.facets.narrow;
  };
  leaves = λ id. same.leaves id ∙ stood.leaves id;
  ids = λ id. ap (λ ids. sets.has ids id) same.ids ∙ stood.ids id;
}

-- an index whose parts stand for the documents after a change
pub stands_after : (old new : RowIndexView) (prepared : PreparedView) (gone come documents : List IndexedDocument)
    → IsPreparedOf old prepared gone come → StandsFor old documents → new.ids ≡ prepared.ids
    → postings.StandsFor new.places (map placed (after gone come documents))
    → AreLengthsOf new.lengths (map placed (after gone come documents))
    → IsIndexOf new.facets (map faceted (after gone come documents))
    → AreLeavesOf new.leaves (map faceted (after gone come documents))
    → StandsFor new (after gone come documents)
stands_after old new prepared gone come documents is stood ids places lengths facets leaves = record {
  places = places;
  lengths = lengths;
  facets = facets;
  leaves = leaves;
  ids = λ id. ap (λ ids. sets.has ids id) ids ∙ is.ids id
      ∙ ap (λ b. has_id id come || (b && not (has_id id gone))) (stood.ids id)
      ∙ sym (has_after id gone come documents);
}
