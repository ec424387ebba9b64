-- What an index keeps, and the documents for which it stands.
use Rattle.std.specs.Prelude.{◌≡◌, ℕ, List, map}
use Rattle.doc_sets.specs.Sets.{has}
use Rattle.postings.specs.Dictionary.{PostingsView}
use Rattle.postings.specs.Documents.{Document}
use Rattle.postings.specs.Fresh as postings
use Rattle.path_lengths.specs.Measured.{AreLengthsOf}
use Rattle.facet_index.specs.LeavesView.{LeavesView, leaves_at}
use Rattle.facet_index.specs.Places.{IsIndexOf}
use Rattle.leaf_table.specs.Tables.{TableView, AreLeavesOf}
use Rattle.row_index.specs.Documents.{IndexedDocument, has_id}

-- the posting lists of places, the lengths of paths, the facet index, the table of leaves, and the set of ids
pub record RowIndexView : Type 0 where
  pub places : PostingsView
  pub lengths : PostingsView
  pub facets : PostingsView
  pub leaves : TableView
  pub ids : List ℕ

-- a document as posting lists know it
abbrev pub placed : IndexedDocument → Document
placed document = record { id = document.id; places = document.rows.places }

-- a document as the facet index and the table of leaves know it
abbrev pub faceted : IndexedDocument → LeavesView
faceted document = leaves_at document.id document.rows.leaves document.rows.marks

-- each part is that of the documents, no two of which have one id
pub record StandsFor (index : RowIndexView) (documents : List IndexedDocument) : Type 0 where
  pub places : postings.StandsFor index.places (map placed documents)
  pub lengths : AreLengthsOf index.lengths (map placed documents)
  pub facets : IsIndexOf index.facets (map faceted documents)
  pub leaves : AreLeavesOf index.leaves (map faceted documents)
  pub ids : (id : ℕ) → has index.ids id ≡ has_id id documents
