-- What a patch makes of settings.
use Rattle.std.specs.Prelude.{if◌then◌else◌, codes, Option, Some, None, Result, Ok}
use Rattle.serde_json.specs.Data.{Data}
use Rattle.serde_json.specs.Find.{get, as_str}
use Rattle.search_base.specs.Trying.{◌>>◌}
use Rattle.index_settings.specs.declared.fault.SettingsRefusal.{SettingsRefusal}
use Rattle.index_settings.specs.View.{SettingsView}
use Rattle.index_settings.specs.Values.{is_null, number_in, texts_in, synonyms_in}
use Rattle.index_settings.specs.Table.{defaults, patch_fault}

-- a member after a patch: as it was where the patch does not name it, the default for null, and else what the value
-- holds
abbrev pub chosen : {A : Type 0} → A → A → (Data → A) → Option Data → A
chosen old default held None = old
chosen old default held (Some d) = if is_null d then default else held d

-- the settings after a patch that has no fault; null gives the member of `default`
abbrev pub patched : SettingsView → SettingsView → Data → SettingsView
patched default old d = record {
  displayed_attributes =
      chosen old.displayed_attributes default.displayed_attributes texts_in (get (codes "displayedAttributes") d);
  distinct_attribute =
      chosen old.distinct_attribute default.distinct_attribute as_str (get (codes "distinctAttribute") d);
  filterable_attributes =
      chosen old.filterable_attributes default.filterable_attributes texts_in (get (codes "filterableAttributes") d);
  max_total_hits =
      chosen old.max_total_hits default.max_total_hits
      (λ inside. chosen old.max_total_hits default.max_total_hits number_in (get (codes "maxTotalHits") inside))
      (get (codes "pagination") d);
  max_values_per_facet =
      chosen old.max_values_per_facet default.max_values_per_facet
      (λ inside. chosen old.max_values_per_facet default.max_values_per_facet number_in
      (get (codes "maxValuesPerFacet") inside))
      (get (codes "faceting") d);
  ranking_rules = chosen old.ranking_rules default.ranking_rules texts_in (get (codes "rankingRules") d);
  searchable_attributes =
      chosen old.searchable_attributes default.searchable_attributes texts_in (get (codes "searchableAttributes") d);
  sortable_attributes =
      chosen old.sortable_attributes default.sortable_attributes texts_in (get (codes "sortableAttributes") d);
  stop_words = chosen old.stop_words default.stop_words texts_in (get (codes "stopWords") d);
  synonyms = chosen old.synonyms default.synonyms synonyms_in (get (codes "synonyms") d);
}

-- the settings after a patch, or its first fault
abbrev pub patch_of : SettingsView → Data → Result SettingsView SettingsRefusal
patch_of old d = patch_fault d >> Ok (patched defaults old d)
