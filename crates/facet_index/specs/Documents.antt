-- What is asked of a document, by its leaves and marks alone.
use Rattle.std.specs.Prelude.{ℕ, ℤ, int_lt, ◌==◌, ◌&&◌, Bool, true, false, not, bytes_eq, List}
use Rattle.std.specs.List.{list_any}
use Rattle.search_base.specs.declared.document.MarkKind.{MarkKind}
use Rattle.search_base.specs.declared.document.MarkKind.TheVariants.{Exists, Null, Empty}
use Rattle.search_base.specs.declared.value.FacetValue.{FacetValue}
use Rattle.search_base.specs.declared.value.FacetValue.TheVariants as facet
use Rattle.facet_index.specs.LeavesView.{LeavesView}

-- whether two values are one
abbrev pub is_same : FacetValue → FacetValue → Bool
is_same (facet.Number m) (facet.Number n) = not (int_lt m n) && not (int_lt n m)
is_same (facet.Text v) (facet.Text w) = bytes_eq v w
is_same _ _ = false

abbrev pub is_kind : MarkKind → MarkKind → Bool
is_kind Exists Exists = true
is_kind Null Null = true
is_kind Empty Empty = true
is_kind _ _ = false

-- a number that passes; a text does not
abbrev pub is_number_that : (ℤ → Bool) → FacetValue → Bool
is_number_that passes (facet.Number n) = passes n
is_number_that passes (facet.Text text) = false

-- from the one to the other, both among them
abbrev pub is_between : ℤ → ℤ → ℤ → Bool
is_between low high n = not (int_lt n low) && not (int_lt high n)

-- whether some leaf under the path has a value that passes
abbrev pub has_value_that : (FacetValue → Bool) → ℕ → LeavesView → Bool
has_value_that passes path document = list_any (λ leaf. (leaf.path.0 == path) && passes leaf.value) document.leaves

abbrev pub has_value : FacetValue → ℕ → LeavesView → Bool
has_value value path document = has_value_that (is_same value) path document

abbrev pub has_number_that : (ℤ → Bool) → ℕ → LeavesView → Bool
has_number_that passes path document = has_value_that (is_number_that passes) path document

-- whether some mark under the path is of the kind
abbrev pub has_mark : MarkKind → ℕ → LeavesView → Bool
has_mark kind path document = list_any (λ mark. (mark.path.0 == path) && is_kind kind mark.kind) document.marks

-- whether the document of this number is there and passes
abbrev pub passes_at : (LeavesView → Bool) → List LeavesView → ℕ → Bool
passes_at test documents id = list_any (λ document. (document.id == id) && test document) documents
