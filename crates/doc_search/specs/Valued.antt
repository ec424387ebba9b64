-- The values of documents, as the index keeps them.
use Rattle.std.specs.Prelude.{ℕ, List, map}
use Rattle.search_base.specs.declared.value.FacetValue.{FacetValue}
use Rattle.search_base.specs.SortKeys.{leaves_under}
use Rattle.row_index.specs.Documents.{IndexedDocument}
use Rattle.doc_search.specs.Rows.{rows_at}
use Rattle.doc_search.specs.Searched.{DocumentsView}

-- the values of the document of an id under a path
abbrev pub values_under : List IndexedDocument → ℕ → ℕ → List FacetValue
values_under documents path d = map (λ leaf. leaf.value) (leaves_under path (rows_at documents d).leaves)

-- the documents, a path, and the documents whose values under it were asked for, in order
pub record LeafValuesView : Type 0 where
  pub among : DocumentsView
  pub path : ℕ
  pub asked : List ℕ
