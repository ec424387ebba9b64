-- The numbers that documents have under a path.
use Rattle.std.specs.Prelude.{◌≡◌, ℕ, ℤ, ◌==◌, ◌&&◌, Bool, List, [], ◌∷◌, map}
use Rattle.std.specs.List.{list_any, AllByRecursion}
use Rattle.search_base.specs.declared.document.DocId.{DocId}
use Rattle.search_base.specs.declared.document.Leaf.{Leaf}
use Rattle.search_base.specs.declared.value.FacetValue.TheVariants as facet
use Rattle.facet_index.specs.Documents.{is_number_that, is_between}
use Rattle.facet_index.specs.Ends.{values_under}
use Rattle.leaf_table.specs.Tables.{TableView, kept_at}

-- whether some leaf under the path is a number from the one to the other, both among them
abbrev pub has_between : ℕ → ℤ → ℤ → List Leaf → Bool
has_between path low high leaves =
    list_any (λ leaf. (leaf.path.0 == path) && is_number_that (is_between low high) leaf.value) leaves

-- the documents of a universe, in order, each with the number that is its only leaf under the path
pub record AreNumbersOf (path : ℕ) (table : TableView) (universe : List ℕ) (pairs : List (ℤ × DocId)) : Type 0 where
  pub ids : map (λ pair. pair.1.0) pairs ≡ universe
  pub only : AllByRecursion (λ pair. values_under path (kept_at pair.1.0 table) ≡ facet.Number pair.0 ∷ []) pairs
