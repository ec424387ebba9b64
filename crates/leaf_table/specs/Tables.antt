-- What contracts see of a table of leaves.
use Rattle.std.specs.Prelude.{◌≡◌, ℕ, List, [], Option, None, unwrap_or, slice_index_or}
use Rattle.std.specs.Option.{option_map}
use Rattle.search_base.specs.declared.document.Leaf.{Leaf}
use Rattle.facet_index.specs.LeavesView.{LeavesView}
use Rattle.facet_index.specs.Batches.{document_at}

-- by their internal ids, what documents have, and none under an id of no document; and for how many leaves more there
-- is room
pub record TableView : Type 0 where
  pub rows : List (Option (List Leaf))
  pub room : ℕ

-- the row of an id, where it has one
abbrev pub row_at : ℕ → TableView → Option (List Leaf)
row_at id table = slice_index_or table.rows id None

-- the leaves of the document of an id, and none where there is no document
abbrev pub kept_at : ℕ → TableView → List Leaf
kept_at id table = unwrap_or (row_at id table) []

-- the table has the leaves of these documents, and no row of others
abbrev pub AreLeavesOf : TableView → List LeavesView → Type 0
AreLeavesOf table documents = (id : ℕ) → row_at id table ≡ option_map (λ document. document.leaves) (document_at id documents)
