-- What the fields of settings stand for.
use Rattle.std.specs.Rc.{rc_slice_items}
use Rattle.index_settings.specs.View.{SettingsView}
use Rattle.index_settings.specs.declared.settings.Settings.TheInside.{Inside}

abbrev pub settings_view : Inside → SettingsView
settings_view s = record {
  displayed_attributes = rc_slice_items s.displayed_attributes;
  distinct_attribute = s.distinct_attribute;
  filterable_attributes = rc_slice_items s.filterable_attributes;
  max_total_hits = s.max_total_hits;
  max_values_per_facet = s.max_values_per_facet;
  ranking_rules = rc_slice_items s.ranking_rules;
  searchable_attributes = rc_slice_items s.searchable_attributes;
  sortable_attributes = rc_slice_items s.sortable_attributes;
  stop_words = rc_slice_items s.stop_words;
  synonyms = rc_slice_items s.synonyms;
}
