-- What a search sees of the document of each id.
use Rattle.std.specs.Prelude.{ℕ, List, [], Option, None, Some}
use Rattle.std.specs.List.{AllByRecursion}
use Rattle.search_base.specs.RowsView.{RowsView}
use Rattle.condition_graph.specs.Meets.{IsRanked}
use Rattle.row_index.specs.Documents.{IndexedDocument, document_at}

-- the rows of a document, and none where there is no document
abbrev pub rows_of : Option IndexedDocument → RowsView
rows_of None = record { places = []; leaves = []; marks = [] }
rows_of (Some document) = document.rows

-- the rows of the document of an id
abbrev pub rows_at : List IndexedDocument → ℕ → RowsView
rows_at documents id = rows_of (document_at id documents)

-- each place of the documents is in a path whose rank is below this number
abbrev pub AreRanked : ℕ → List IndexedDocument → Type 0
AreRanked bound documents = AllByRecursion (λ document. AllByRecursion (IsRanked bound) document.rows.places) documents
