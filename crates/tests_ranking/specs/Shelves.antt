-- Documents in an index, each at the place of its number.
use Rattle.std.specs.Prelude.{ℕ, suc, List, [], ◌∷◌, map, Option}
use Rattle.search_base.specs.RowsView.{RowsView}
use Rattle.posting_sets.specs.Blocks.{HaveRanks}
use Rattle.row_index.specs.Documents.{IndexedDocument, document_with}
use Rattle.row_index.specs.Standing.{RowIndexView, StandsFor, placed}
use Rattle.doc_search.specs.Rows.{AreRanked}

-- the documents of which the first has this number
abbrev pub shelved_from : ℕ → List RowsView → List IndexedDocument
shelved_from id [] = []
shelved_from id (rows ∷ rest) = document_with id rows ∷ shelved_from (suc id) rest

abbrev pub shelved : List RowsView → List IndexedDocument
shelved rows = shelved_from 0 rows

-- the index is theirs, and each place has the rank of its path, which is below 8
pub record IsShelf (index : RowIndexView) (ranks : List (Option ℕ)) (documents : List IndexedDocument) : Type 0 where
  pub stands : StandsFor index documents
  pub have : HaveRanks ranks (map placed documents)
  pub below : AreRanked 8 documents
