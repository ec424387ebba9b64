-- Columns: for each path, what each document has there, by its internal id.
use Rattle.std.specs.Prelude.{◌≡◌, ℕ, ℤ, int_lt, true, Vec, List, [], ◌∷◌, map, Option, None, unwrap_or, slice_index_or}
use Rattle.std.specs.Global.{Global}
use Rattle.search_base.specs.declared.document.Leaf.{Leaf}
use Rattle.search_base.specs.declared.value.FacetValue.TheVariants as facet
use Rattle.search_base.specs.SortKeys.{leaves_under}
use Rattle.leaf_table.specs.declared.columns.TheConstants.{OTHER}

-- the leaves of a document, by the rows, and none where it has no row
abbrev pub leaves_in : ℕ → List (Option (List Leaf)) → List Leaf
leaves_in id rows = unwrap_or (slice_index_or rows id None) []

-- what a cell says is right of these leaves
pub record Tells (cell : ℤ) (leaves : List Leaf) : Type 0 where
  pub nothing : int_lt cell OTHER ≡ true → leaves ≡ []
  pub number : int_lt OTHER cell ≡ true → map (λ leaf. leaf.value) leaves ≡ facet.Number cell ∷ []

-- the cell of a document; past the end of a column there may be anything
abbrev pub cell_in : ℕ → List ℤ → ℤ
cell_in id column = slice_index_or column id OTHER

abbrev pub columns_of : List (Vec ℤ Global) → List (List ℤ)
columns_of columns = map (λ column. column.items) columns

-- the cell of a document in the column of a path
abbrev pub cell_at : ℕ → ℕ → List (Vec ℤ Global) → ℤ
cell_at path id columns = cell_in id (slice_index_or (columns_of columns) path [])

-- a column tells of the leaves under its path
abbrev pub IsColumn : ℕ → List ℤ → List (Option (List Leaf)) → Type 0
IsColumn path column rows = (id : ℕ) → Tells (cell_in id column) (leaves_under path (leaves_in id rows))

abbrev pub AreColumns : List (Vec ℤ Global) → List (Option (List Leaf)) → Type 0
AreColumns columns rows = (path : ℕ) → IsColumn path (slice_index_or (columns_of columns) path []) rows
