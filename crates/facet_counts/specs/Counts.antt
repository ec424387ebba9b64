-- The values that documents have at a path, how many have each, and their least and greatest number.
use Rattle.std.specs.Prelude.{ℕ, ℤ, List, [], ◌∷◌, length, map, filter, flat_map, take, bytes_eq, Bool, Option, Some, None}
use Rattle.std.specs.Fmt.{signed_decimal}
use Rattle.std.specs.List.{list_any}
use Rattle.search_base.specs.declared.document.Leaf.{Leaf}
use Rattle.search_base.specs.declared.document.PathId.{PathId}
use Rattle.search_base.specs.declared.value.FacetValue.{FacetValue}
use Rattle.search_base.specs.declared.value.FacetValue.TheVariants as facet
use Rattle.search_base.specs.RowsView.{RowsView}
use Rattle.search_base.specs.SortKeys.{leaves_under, numbers, first_by, is_less, is_greater}
use Rattle.facet_counts.specs.declared.rows.CountRow.{CountRow}
use Rattle.facet_counts.specs.declared.rows.FacetPath.{FacetPath}
use Rattle.facet_counts.specs.FacetView.{FacetView}
use Rattle.facet_counts.specs.Order.{in_order}

-- ---- the values of leaves

-- a value as it is counted: the normal form of a text or a boolean, the decimal text of a number
abbrev pub text_of : FacetValue → List ℕ
text_of (facet.Number n) = signed_decimal n
text_of (facet.Text form) = form

abbrev pub is_of : List ℕ → Leaf → Bool
is_of value leaf = bytes_eq (text_of leaf.value) value

-- the leaves of documents at a path, document by document
abbrev pub leaves_at : ℕ → List RowsView → List Leaf
leaves_at path documents = flat_map (λ rows. leaves_under path rows.leaves) documents

-- the values that some document has there, in the order of their bytes, each once
abbrev pub values_at : ℕ → List RowsView → List (List ℕ)
values_at path documents = in_order (map (λ leaf. text_of leaf.value) (leaves_at path documents))

-- ---- a value

-- how many documents have a leaf of the value
abbrev pub count_of : ℕ → List RowsView → List ℕ → ℕ
count_of path documents value =
    length (filter (λ rows. list_any (is_of value) (leaves_under path rows.leaves)) documents)

-- how the first leaf of the value is spelled
abbrev pub first_shown : List Leaf → List ℕ
first_shown [] = []
first_shown (leaf ∷ leaves) = leaf.shown

abbrev pub shown_of : ℕ → List RowsView → List ℕ → List ℕ
shown_of path documents value = first_shown (filter (is_of value) (leaves_at path documents))

-- a value with its spelling and its count
abbrev pub count_row : ℕ → List RowsView → List ℕ → CountRow
count_row path documents value =
    record { value = value; shown = shown_of path documents value; count = count_of path documents value }

-- ---- a path

-- the first `most` values in the order of their bytes
abbrev pub count_rows : ℕ → ℕ → List RowsView → List CountRow
count_rows path most documents = map (count_row path documents) (take most (values_at path documents))

-- a least and a greatest number, where there are numbers
abbrev pub both_of : Option ℤ → Option ℤ → Option (ℤ × ℤ)
both_of (Some low) (Some high) = Some (low, high)
both_of None high = None
both_of (Some low) None = None

abbrev pub stats_of : ℕ → List RowsView → Option (ℤ × ℤ)
stats_of path documents =
    let all = numbers (leaves_at path documents) in
    both_of (first_by is_less all) (first_by is_greater all)

-- ---- an attribute; one without a path has no values

abbrev pub rows_of : Option PathId → ℕ → List RowsView → List CountRow
rows_of None most documents = []
rows_of (Some path) most documents = count_rows path.0 most documents

abbrev pub stats_at : Option PathId → List RowsView → Option (ℤ × ℤ)
stats_at None documents = None
stats_at (Some path) documents = stats_of path.0 documents

-- the counts of an attribute over these documents, which come in the order of their internal ids
abbrev pub counted : ℕ → List RowsView → FacetPath → FacetView
counted most documents asked = record {
  attribute = asked.attribute;
  rows = rows_of asked.path most documents;
  stats = stats_at asked.path documents;
}
