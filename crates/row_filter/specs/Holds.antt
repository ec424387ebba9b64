-- Whether a document passes a filter: what its leaves and marks say of the filter's tests.
use Rattle.std.specs.Prelude.{ℕ, ℤ, ◌==◌, ◌&&◌, ◌||◌, Bool, true, false, not, int_lt, position, bytes_eq, List, filter, Option, Some, None}
use Rattle.std.specs.List.{list_any}
use Rattle.search_base.specs.declared.document.Leaf.{Leaf}
use Rattle.search_base.specs.declared.document.Mark.{Mark}
use Rattle.search_base.specs.declared.document.MarkKind.{MarkKind}
use Rattle.search_base.specs.declared.document.MarkKind.TheVariants.{Exists, Null, Empty}
use Rattle.search_base.specs.declared.value.FacetValue.{FacetValue}
use Rattle.search_base.specs.declared.value.FacetValue.TheVariants as facet
use Rattle.search_base.specs.RowsView.{RowsView}
use Rattle.search_base.specs.SortKeys.{leaves_under}
use Rattle.token_words.specs.Normal.{normal}
use Rattle.filter_tree.specs.Number.{number_of}
use Rattle.filter_tree.specs.Tree.{TestData, equal, above, at_least, below, at_most, between, one_of, exists, null, empty, Tree, Trees, all, both, either, negation, test, no_trees, tree}

-- ---- the values of one path

-- the number is that of a text, if the text writes one
abbrev pub is_number : ℤ → Option ℤ → Bool
is_number n None = false
is_number n (Some m) = not (int_lt n m) && not (int_lt m n)

-- a text equals the numbers that it writes, and the texts and booleans of its normal form
abbrev pub is_equal : List ℕ → FacetValue → Bool
is_equal text (facet.Number n) = is_number n (number_of text)
is_equal text (facet.Text form) = bytes_eq form (normal text)

-- a number that passes; a text does not
abbrev pub is_number_that : (ℤ → Bool) → FacetValue → Bool
is_number_that passes (facet.Number n) = passes n
is_number_that passes (facet.Text form) = false

-- some leaf has a value that passes
abbrev pub some_value : (FacetValue → Bool) → List Leaf → Bool
some_value passes leaves = list_any (λ leaf. passes leaf.value) leaves

abbrev pub some_number : (ℤ → Bool) → List Leaf → Bool
some_number passes leaves = some_value (is_number_that passes) leaves

abbrev pub is_kind : MarkKind → MarkKind → Bool
is_kind Exists Exists = true
is_kind Null Null = true
is_kind Empty Empty = true
is_kind _ _ = false

abbrev pub has_mark : MarkKind → List Mark → Bool
has_mark kind marks = list_any (λ mark. is_kind kind mark.kind) marks

-- whether the leaves and marks of a path meet a test
abbrev pub meets : TestData → List Leaf → List Mark → Bool
meets (equal text) leaves marks = some_value (is_equal text) leaves
meets (above n) leaves marks = some_number (λ m. int_lt n m) leaves
meets (at_least n) leaves marks = some_number (λ m. not (int_lt m n)) leaves
meets (below n) leaves marks = some_number (λ m. int_lt m n) leaves
meets (at_most n) leaves marks = some_number (λ m. not (int_lt n m)) leaves
meets (between low high) leaves marks = some_number (λ m. not (int_lt m low) && not (int_lt high m)) leaves
meets (one_of texts) leaves marks = list_any (λ text. some_value (is_equal text) leaves) texts
meets exists leaves marks = has_mark Exists marks
meets null leaves marks = has_mark Null marks
meets empty leaves marks = has_mark Empty marks

-- ---- a document

abbrev pub marks_under : ℕ → List Mark → List Mark
marks_under path marks = filter (λ mark. mark.path.0 == path) marks

-- the number of the path of this name in a registry, where it has one
abbrev pub number_named : List (List ℕ) → List ℕ → Option ℕ
number_named paths name = position (λ path. bytes_eq path name) paths

-- a path that the registry does not have meets no test
abbrev pub meets_at : TestData → RowsView → Option ℕ → Bool
meets_at x rows None = false
meets_at x rows (Some path) = meets x (leaves_under path rows.leaves) (marks_under path rows.marks)

-- whether a document with these rows passes a filter, in an index with this registry of paths
abbrev mutual
  pub holds : List (List ℕ) → RowsView → Tree → Bool
  holds paths rows all = true
  holds paths rows (both ts) = all_hold paths rows ts
  holds paths rows (either ts) = one_holds paths rows ts
  holds paths rows (negation t) = not (holds paths rows t)
  holds paths rows (test attribute x) = meets_at x rows (number_named paths attribute)

  pub all_hold : List (List ℕ) → RowsView → Trees → Bool
  all_hold paths rows no_trees = true
  all_hold paths rows (tree t ts) = holds paths rows t && all_hold paths rows ts

  pub one_holds : List (List ℕ) → RowsView → Trees → Bool
  one_holds paths rows no_trees = false
  one_holds paths rows (tree t ts) = holds paths rows t || one_holds paths rows ts
