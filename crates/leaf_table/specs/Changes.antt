-- Rows that go from a table of leaves, and rows that come.
use Rattle.std.specs.Prelude.{◌≡◌, ℕ, ◌+◌, ◌<◌, ◌≤◌, ◌==◌, List, [], ◌∷◌, map, length, Option, None, Some, if◌then◌else◌}
use Rattle.std.specs.List.{All}
use Rattle.search_base.specs.declared.document.DocId.{DocId}
use Rattle.search_base.specs.declared.document.Leaf.{Leaf}
use Rattle.doc_sets.specs.Sets.{has}
use Rattle.facet_index.specs.LeavesView.{LeavesView}
use Rattle.leaf_table.specs.Tables.{TableView}

-- the leaves of a document, under its internal id
pub record RowView : Type 0 where
  pub id : ℕ
  pub leaves : List Leaf

-- the ids of the documents that go, and the rows of those that come; of each the last that was named stands first
pub record ChangeView : Type 0 where
  pub gone : List ℕ
  pub come : List RowView

abbrev pub numbers : List DocId → List ℕ
numbers ids = map (λ id. id.0) ids

abbrev pub row_of : LeavesView → RowView
row_of document = record { id = document.id; leaves = document.leaves }

-- what goes are the ids of some documents, and what comes the rows of others
pub record IsLeafChangeOf (change : ChangeView) (gone come : List LeavesView) : Type 0 where
  pub goes : change.gone ≡ map (λ document. document.id) gone
  pub comes : change.come ≡ map row_of come

-- how many leaves some rows have
abbrev pub leaf_count : List RowView → ℕ
leaf_count [] = 0
leaf_count (row ∷ rows) = length row.leaves + leaf_count rows

-- the table has a row for each that comes, and room for its leaves
pub record HasRows (table : TableView) (change : ChangeView) : Type 0 where
  pub rows : All (λ row. row.id < length table.rows) change.come
  pub room : leaf_count change.come ≤ table.room

-- the row of an id once rows came: the first of them that is of the id, or else the row that stood there
abbrev pub come_at : ℕ → List RowView → Option (List Leaf) → Option (List Leaf)
come_at id [] kept = kept
come_at id (row ∷ rows) kept = if row.id == id then Some row.leaves else come_at id rows kept

-- the row of an id once some went
abbrev pub left_at : ℕ → List ℕ → Option (List Leaf) → Option (List Leaf)
left_at id gone kept = if has gone id then None else kept
