-- How settings are printed.
use Rattle.std.specs.Prelude.{ℕ, List, [], ◌∷◌, map, codes, Option, Some, None}
use Rattle.serde_json.specs.Data.{Data, null, number, unsigned, string, array, object, Members, no_members, member}
use Rattle.serde_json.specs.View.{items_of}
use Rattle.index_settings.specs.View.{SynonymView, SettingsView}

abbrev pub texts_data : List (List ℕ) → Data
texts_data texts = array (items_of (map string texts))

abbrev pub text_or_null : Option (List ℕ) → Data
text_or_null None = null
text_or_null (Some text) = string text

abbrev pub synonym_members : List SynonymView → Members
synonym_members [] = no_members
synonym_members (list ∷ lists) = member list.key (texts_data list.texts) (synonym_members lists)

abbrev pub nested_number : List ℕ → ℕ → Data
nested_number name n = object (member name (number (unsigned n)) no_members)

-- an object of the ten members, in byte order of their names
abbrev pub settings_data : SettingsView → Data
settings_data s =
    object (member (codes "displayedAttributes") (texts_data s.displayed_attributes)
    (member (codes "distinctAttribute") (text_or_null s.distinct_attribute)
    (member (codes "faceting") (nested_number (codes "maxValuesPerFacet") s.max_values_per_facet)
    (member (codes "filterableAttributes") (texts_data s.filterable_attributes)
    (member (codes "pagination") (nested_number (codes "maxTotalHits") s.max_total_hits)
    (member (codes "rankingRules") (texts_data s.ranking_rules)
    (member (codes "searchableAttributes") (texts_data s.searchable_attributes)
    (member (codes "sortableAttributes") (texts_data s.sortable_attributes)
    (member (codes "stopWords") (texts_data s.stop_words)
    (member (codes "synonyms") (object (synonym_members s.synonyms)) no_members))))))))))
