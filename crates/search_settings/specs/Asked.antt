-- The attributes that a search counts.
use Rattle.std.specs.Prelude.{ℕ, List, [], ◌∷◌, map, flat_map, codes, bytes_eq, Option, None, Some, if◌then◌else◌}
use Rattle.facet_counts.specs.declared.rows.FacetPath.{FacetPath}
use Rattle.facet_counts.specs.Order.{in_order}
use Rattle.index_settings.specs.View.{SettingsView}
use Rattle.search_settings.specs.Rules.{path_named}

-- `*` stands for each attribute by which the settings let a search filter
abbrev pub names_for : SettingsView → List ℕ → List (List ℕ)
names_for settings name = if bytes_eq name (codes "*") then settings.filterable_attributes else name ∷ []

-- the attributes that are counted, in the order of their bytes, each once
abbrev pub facet_names : SettingsView → List (List ℕ) → List (List ℕ)
facet_names settings names = in_order (flat_map (names_for settings) names)

abbrev pub facet_path : List (List ℕ) → List ℕ → FacetPath
facet_path paths name = record { attribute = name; path = path_named paths name }

-- the attributes that are counted, each with its path in the registry
abbrev pub facet_paths : SettingsView → List (List ℕ) → List (List ℕ) → List FacetPath
facet_paths settings paths names = map (facet_path paths) (facet_names settings names)

abbrev pub paths_asked : SettingsView → List (List ℕ) → Option (List (List ℕ)) → List FacetPath
paths_asked settings paths None = []
paths_asked settings paths (Some names) = facet_paths settings paths names
