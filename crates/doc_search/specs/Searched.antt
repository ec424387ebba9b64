-- What is searched: documents, their index, and the ranks of their paths.
use Rattle.std.specs.Prelude.{ℕ, ◌≤◌, List, length, map, Option}
use Rattle.doc_index.specs.Documents.{documents_of}
use Rattle.doc_rows.specs.declared.path_use.PathUse.{PathUse}
use Rattle.doc_store.specs.Store.{Store}
use Rattle.posting_sets.specs.Blocks.{HaveRanks}
use Rattle.row_index.specs.Documents.{IndexedDocument}
use Rattle.row_index.specs.Standing.{RowIndexView, StandsFor, placed}
use Rattle.doc_search.specs.Matches.{AreInOrder}
use Rattle.doc_search.specs.Rows.{AreRanked}

-- the registry of paths, and the documents with their rows
pub record DocumentsView : Type 0 where
  pub paths : List (List ℕ)
  pub documents : List IndexedDocument

-- those of a store whose paths are used so
abbrev pub documents_in : Store → List PathUse → DocumentsView
documents_in store uses = record { paths = store.paths; documents = documents_of store.paths uses store.rows }

-- The index is that of the documents, which stand in the order of their ids, and these are the ranks of their paths,
-- each below a number.
pub record IsSearched (index : RowIndexView) (ranks : List (Option ℕ)) (bound : ℕ) (among : DocumentsView)
    : Type 0 where
  pub stands : StandsFor index among.documents
  pub ranked : HaveRanks ranks (map placed among.documents)
  pub below : AreRanked bound among.documents
  pub order : AreInOrder among.documents
  pub few : length among.paths ≤ 1000
