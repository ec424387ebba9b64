-- The value under a path that comes first, ascending or descending.
use Rattle.std.specs.Prelude.{ℕ, int_lt, ◌==◌, Bool, true, false, List, [], ◌∷◌, ◌++◌, map, flat_map, Option, Some, None, if◌then◌else◌}
use Rattle.std.specs.List.{list_any}
use Rattle.search_base.specs.declared.document.Leaf.{Leaf}
use Rattle.search_base.specs.declared.value.FacetValue.{FacetValue}
use Rattle.search_base.specs.declared.value.FacetValue.TheVariants as facet
use Rattle.search_base.specs.SortKeys.{leaves_under, first_by, is_text_less, is_text_greater}
use Rattle.facet_keys.specs.Keys.{Facet, least, greatest}

-- numbers before texts: ascending from the least on, descending from the greatest
abbrev pub value_before : Bool → FacetValue → FacetValue → Bool
value_before true (facet.Number m) (facet.Number n) = int_lt m n
value_before false (facet.Number m) (facet.Number n) = int_lt n m
value_before up (facet.Number m) (facet.Text w) = true
value_before up (facet.Text v) (facet.Number n) = false
value_before true (facet.Text v) (facet.Text w) = is_text_less v w
value_before false (facet.Text v) (facet.Text w) = is_text_greater v w

abbrev pub values_under : ℕ → List Leaf → List FacetValue
values_under path leaves = map (λ leaf. leaf.value) (leaves_under path leaves)

-- of the values under a path the one that comes first
abbrev pub first_value : Bool → ℕ → List Leaf → Option FacetValue
first_value up path leaves = first_by (value_before up) (values_under path leaves)

-- as a facet it is the least value ascending, and descending the greatest one
abbrev pub end_facet : Bool → FacetValue → Facet
end_facet true v = least v
end_facet false v = greatest v

abbrev pub if_end : Bool → ℕ → Option FacetValue → List (ℕ × Facet)
if_end up path None = []
if_end up path (Some v) = (path, end_facet up v) ∷ []

abbrev pub end_at : Bool → ℕ → List Leaf → List (ℕ × Facet)
end_at up path leaves = if_end up path (first_value up path leaves)

-- the ends of the values under a path
abbrev pub ends_at : List Leaf → ℕ → List (ℕ × Facet)
ends_at leaves path = end_at true path leaves ++ end_at false path leaves

-- whether a leaf stands under the path
abbrev pub has_path : ℕ → List Leaf → Bool
has_path path leaves = list_any (λ leaf. leaf.path.0 == path) leaves

-- the ends of the values under a path, unless it is the path of other leaves too
abbrev pub new_ends : List Leaf → ℕ → List Leaf → List (ℕ × Facet)
new_ends leaves path others = if has_path path others then [] else ends_at leaves path

-- the paths of leaves, each once
abbrev pub paths_of : List Leaf → List ℕ
paths_of [] = []
paths_of (leaf ∷ leaves) = if has_path leaf.path.0 leaves then paths_of leaves else leaf.path.0 ∷ paths_of leaves

-- the ends of the values under each path
abbrev pub ends_of : List Leaf → List (ℕ × Facet)
ends_of leaves = flat_map (ends_at leaves) (paths_of leaves)
