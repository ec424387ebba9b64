-- How the logic stores settings.
use Rattle.std.specs.Prelude.{ℕ, List, Option, refl}
use Rattle.std.specs.Coded.{Coded, code_by, coded×, coded_ℕ, coded_list, coded_option}
use Rattle.index_settings.specs.View.{SynonymView, SettingsView}

abbrev pub texts_code : Coded (List (List ℕ))
texts_code = coded_list (coded_list coded_ℕ)

abbrev pub synonym_code : Coded SynonymView
synonym_code = code_by (List ℕ × List (List ℕ)) (coded× (coded_list coded_ℕ) texts_code) (λ s. (s.key, s.texts)) (λ p. record { key = p.0; texts = p.1 }) (λ _. refl)

-- the attributes, and then the rest
abbrev Attributes : Type 0
Attributes = List (List ℕ) × (List (List ℕ) × (List (List ℕ) × List (List ℕ)))

abbrev attributes_code : Coded Attributes
attributes_code = coded× texts_code (coded× texts_code (coded× texts_code texts_code))

abbrev Rest : Type 0
Rest = Option (List ℕ) × (ℕ × (ℕ × (List (List ℕ) × (List (List ℕ) × List SynonymView))))

abbrev rest_code : Coded Rest
rest_code = coded× (coded_option (coded_list coded_ℕ)) (coded× coded_ℕ (coded× coded_ℕ (coded× texts_code (coded× texts_code (coded_list synonym_code)))))

abbrev pub settings_code : Coded SettingsView
settings_code = code_by (Attributes × Rest) (coded× attributes_code rest_code)
    (λ s. ((s.displayed_attributes, (s.filterable_attributes, (s.searchable_attributes, s.sortable_attributes))), (s.distinct_attribute, (s.max_total_hits, (s.max_values_per_facet, (s.ranking_rules, (s.stop_words, s.synonyms)))))))
    (λ p. record {
      displayed_attributes = p.0.0;
      distinct_attribute = p.1.0;
      filterable_attributes = p.0.1.0;
      max_total_hits = p.1.1.0;
      max_values_per_facet = p.1.1.1.0;
      ranking_rules = p.1.1.1.1.0;
      searchable_attributes = p.0.1.1.0;
      sortable_attributes = p.0.1.1.1;
      stop_words = p.1.1.1.1.1.0;
      synonyms = p.1.1.1.1.1.1;
    })
    (λ _. refl)
