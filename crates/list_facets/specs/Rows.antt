-- The rows of documents, and those of their values that are counted.
use Rattle.std.specs.Prelude.{◌≡◌, ℕ, Bool, List, [], ◌∷◌, map, take, flat_map, filter, nat_eq, Option, Some, None, if◌then◌else◌}
use Rattle.std.specs.List.{list_any, starts_with}
use Rattle.search_base.specs.RowsView.{RowsView}
use Rattle.search_base.specs.SortKeys.{leaves_under}
use Rattle.postings.specs.Dictionary.{PostingsView}
use Rattle.facet_counts.specs.Counts.{is_of, leaves_at, values_at, count_row, first_shown}
use Rattle.facet_counts.specs.declared.rows.CountRow.{CountRow}
use Rattle.list_facets.specs.declared.query.FacetQuery.{FacetQuery}
use Rattle.facet_index.specs.LeavesView.{LeavesView, leaves_of}
use Rattle.facet_index.specs.Batches.{document_at}
use Rattle.facet_index.specs.Places.{IsIndexOf}
use Rattle.leaf_table.specs.Tables.{TableView, kept_at}

-- the rows of each number have the leaves of the document of this number
abbrev pub AreRowsOf : (ℕ → RowsView) → List LeavesView → Type 0
AreRowsOf rows documents = (id : ℕ) → (rows id).leaves ≡ leaves_of (document_at id documents)

-- the same, for the documents of an index
pub record AreRowsIn (view : PostingsView) (rows : ℕ → RowsView) : Type 0 where
  pub documents : List LeavesView
  pub index : IsIndexOf view documents
  pub leaves : AreRowsOf rows documents

-- the rows of each number have the leaves that a table keeps for it
abbrev pub AreKeptRows : (ℕ → RowsView) → TableView → Type 0
AreKeptRows rows table = (id : ℕ) → (rows id).leaves ≡ kept_at id table

-- how the first leaf of a text is spelled in a document
abbrev pub shown_in : ℕ → List ℕ → RowsView → List ℕ
shown_in path text rows = first_shown (filter (is_of text) (leaves_under path rows.leaves))

-- whether a document has a leaf of the text
abbrev pub has_text : ℕ → List ℕ → RowsView → Bool
has_text path text rows = list_any (is_of text) (leaves_under path rows.leaves)

-- the row of a value, if a document has it
abbrev pub row_if : ℕ → List RowsView → List ℕ → List CountRow
row_if path documents text = if list_any (is_of text) (leaves_at path documents) then count_row path documents text ∷ [] else []

abbrev pub rows_if : ℕ → List RowsView → List (List ℕ) → List CountRow
rows_if path documents texts = flat_map (row_if path documents) texts

-- what may be there, as a list
abbrev pub listed : {X : Type 0} → Option X → List X
listed None = []
listed (Some x) = x ∷ []

-- the values that begin as a query asks, of those that some document has
abbrev pub values_asked : FacetQuery → List RowsView → List (List ℕ)
values_asked query documents = filter (λ value. starts_with nat_eq value query.prefix) (values_at query.path.0 documents)

-- the rows of the first of these, in the order of their bytes
abbrev pub rows_asked : FacetQuery → List RowsView → List CountRow
rows_asked query documents = map (count_row query.path.0 documents) (take query.most (values_asked query documents))
