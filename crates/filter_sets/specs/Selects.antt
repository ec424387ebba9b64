-- The documents of a set that pass a test of their rows.
use Rattle.std.specs.Prelude.{◌≡◌, ℕ, ℤ, Bool, List, [], Option, Some, None}
use Rattle.std.specs.List.{filter}
use Rattle.std.specs.Int.{w128}
use Rattle.std.specs.Int.RustNames.{FitsSigned}
use Rattle.search_base.specs.declared.document.Mark.{Mark}
use Rattle.search_base.specs.RowsView.{RowsView}
use Rattle.facet_index.specs.LeavesView.{LeavesView, leaves_of}
use Rattle.facet_index.specs.Documents.{is_between}
use Rattle.facet_index.specs.Batches.{document_at}
use Rattle.facet_index.specs.Places.{IsIndexOf}
use Rattle.leaf_table.specs.Tables.{AreLeavesOf}
use Rattle.filter_sets.specs.declared.source.Facets.{Facets}

-- the marks of a document, and none where it is not there
abbrev pub marks_of : Option LeavesView → List Mark
marks_of None = []
marks_of (Some document) = document.marks

-- the rows have the leaves and the marks of the documents of their numbers
pub record AreRowsOf (rows : ℕ → RowsView) (documents : List LeavesView) : Type 0 where
  pub leaves : (id : ℕ) → (rows id).leaves ≡ leaves_of (document_at id documents)
  pub marks : (id : ℕ) → (rows id).marks ≡ marks_of (document_at id documents)

-- the index and the table of leaves are those of the documents
pub record AreFacetsOf (facets : Facets) (documents : List LeavesView) : Type 0 where
  pub index : IsIndexOf facets.index.now documents
  pub leaves : AreLeavesOf facets.leaves.now documents

-- the ids are those among all whose rows pass, where the index and the table of leaves are those of the documents
abbrev pub Selects : Facets → (RowsView → Bool) → List ℕ → List ℕ → Type 0
Selects facets passes all ids = (documents : List LeavesView) (rows : ℕ → RowsView) → AreFacetsOf facets documents → AreRowsOf rows documents
    → ids ≡ filter (λ id. passes (rows id)) all

-- the wanted numbers of 128 bits are those from the one to the other
abbrev pub AreBetween : ℤ → ℤ → (ℤ → Bool) → Type 0
AreBetween low high wanted = (n : ℤ) → FitsSigned w128 n → is_between low high n ≡ wanted n
