-- The documents that match a search, as its counts see them.
use Rattle.std.specs.Prelude.{◌&&◌, Bool, List, map}
use Rattle.std.specs.Option.{is_some}
use Rattle.std.specs.List.{filter}
use Rattle.search_base.specs.GraphView.{GraphView}
use Rattle.search_base.specs.RowsView.{RowsView}
use Rattle.search_base.specs.Tuple.{cost_of}
use Rattle.row_index.specs.Documents.{IndexedDocument}

-- the rows pass, and the query matches them
abbrev pub is_match : (RowsView → Bool) → GraphView → RowsView → Bool
is_match passes query rows = passes rows && is_some (cost_of rows.places query.levels)

-- what a search sees of the documents that match, in their order
abbrev pub rows_matching : (RowsView → Bool) → GraphView → List IndexedDocument → List RowsView
rows_matching passes query documents = filter (is_match passes query) (map (λ document. document.rows) documents)
