-- Stored documents as a row index knows them.
use Rattle.std.specs.Prelude.{ℕ, List, [], ◌∷◌, map, Option, None, Some}
use Rattle.serde_json.specs.Data.{Data}
use Rattle.doc_rows.specs.declared.path_use.PathUse.{PathUse}
use Rattle.doc_rows.specs.Rows.{rows_of}
use Rattle.doc_store.specs.Store.{Row}
use Rattle.row_index.specs.Documents.{IndexedDocument, document_with}

-- a document under an internal id, in an index with these paths, each used so
abbrev pub indexed : List (List ℕ) → List PathUse → ℕ → Data → IndexedDocument
indexed paths uses id document = document_with id (rows_of document paths uses)

abbrev pub document_of : List (List ℕ) → List PathUse → Row → IndexedDocument
document_of paths uses r = indexed paths uses r.id r.document

-- the documents of a store
abbrev pub documents_of : List (List ℕ) → List PathUse → List Row → List IndexedDocument
documents_of paths uses rows = map (document_of paths uses) rows

-- documents, and before them the one that is stored, where there is one
abbrev pub with_document : List (List ℕ) → List PathUse → Option Row → List IndexedDocument → List IndexedDocument
with_document paths uses None documents = documents
with_document paths uses (Some r) documents = document_of paths uses r ∷ documents

-- documents, and before them those of a store, the last of them first: as they stand where each came before the others
abbrev pub rising : List (List ℕ) → List PathUse → List Row → List IndexedDocument → List IndexedDocument
rising paths uses [] documents = documents
rising paths uses (r ∷ rows) documents = rising paths uses rows (document_of paths uses r ∷ documents)
