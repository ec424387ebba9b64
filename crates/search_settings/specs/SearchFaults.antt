-- Why an index refuses a search, by its settings: the first fault of its criteria, its filter and its counts. Why it
-- refuses a search of the values of an attribute: the first fault of its filter and its attribute.
use Rattle.std.specs.Prelude.{ℕ, ◌&&◌, List, [], ◌∷◌, find, Bool, not, codes, bytes_eq, Option, Some, None, if◌then◌else◌}
use Rattle.std.specs.Option.{option_map}
use Rattle.std.specs.List.{list_any}
use Rattle.search_base.specs.Trying.{first_of, refuse_if}
use Rattle.search_call.specs.declared.Criterion.{Criterion}
use Rattle.search_call.specs.SearchView.{SearchView, FacetCallView}
use Rattle.filter_tree.specs.Tree.{Tree}
use Rattle.row_filter.specs.Attributes.{attributes}
use Rattle.index_settings.specs.Paths.{is_covered}
use Rattle.index_settings.specs.View.{SettingsView}
use Rattle.search_settings.specs.declared.refusal.SearchRefusal.{SearchRefusal}
use Rattle.search_settings.specs.declared.refusal.SearchRefusal.TheVariants.{NoSortRule, NotSortable, NotFilterable, NotFacet}

-- no entry is the name or, with a dot, begins it
abbrev pub is_uncovered : List (List ℕ) → List ℕ → Bool
is_uncovered entries name = not (is_covered entries name)

-- the first of the names that no entry covers
abbrev pub first_uncovered : List (List ℕ) → List (List ℕ) → Option (List ℕ)
first_uncovered entries names = find (is_uncovered entries) names

-- the ranking rules have the rule `sort`
abbrev pub have_sort : SettingsView → Bool
have_sort settings = list_any (λ rule. bytes_eq rule (codes "sort")) settings.ranking_rules

-- the first criterion whose attribute no entry covers
abbrev pub first_unsortable : List (List ℕ) → List Criterion → Option Criterion
first_unsortable entries sort = find (λ c. is_uncovered entries c.attribute) sort

abbrev pub sort_fault : SettingsView → List Criterion → Option SearchRefusal
sort_fault settings [] = None
sort_fault settings (c ∷ cs) =
    if have_sort settings
    then option_map (λ c. NotSortable c.attribute) (first_unsortable settings.sortable_attributes (c ∷ cs))
    else Some NoSortRule

abbrev pub filter_fault : SettingsView → Tree → Option SearchRefusal
filter_fault settings filter =
    option_map NotFilterable (first_uncovered settings.filterable_attributes (attributes filter))

-- the first of the names that is not `*` and that no entry covers
abbrev pub first_uncountable : List (List ℕ) → List (List ℕ) → Option (List ℕ)
first_uncountable entries names = find (λ name. not (bytes_eq name (codes "*")) && is_uncovered entries name) names

abbrev pub facet_fault : SettingsView → Option (List (List ℕ)) → Option SearchRefusal
facet_fault settings None = None
facet_fault settings (Some names) = option_map NotFacet (first_uncountable settings.filterable_attributes names)

abbrev pub search_fault : SettingsView → SearchView → Option SearchRefusal
search_fault settings call =
    first_of (sort_fault settings call.sort)
    (first_of (filter_fault settings call.filter) (facet_fault settings call.facets))

-- the attribute whose values are searched must be one to filter by
abbrev pub name_fault : SettingsView → List ℕ → Option SearchRefusal
name_fault settings name = refuse_if (is_uncovered settings.filterable_attributes name) (NotFacet name)

abbrev pub facet_search_fault : SettingsView → FacetCallView → Option SearchRefusal
facet_search_fault settings call = first_of (filter_fault settings call.filter) (name_fault settings call.name)
