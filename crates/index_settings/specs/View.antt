-- What contracts see of settings.
use Rattle.std.specs.Prelude.{ℕ, List, Option}

-- a text, and the texts that are its synonyms
pub record SynonymView : Type 0 where
  pub key : List ℕ
  pub texts : List (List ℕ)

pub record SettingsView : Type 0 where
  pub displayed_attributes : List (List ℕ)
  pub distinct_attribute : Option (List ℕ)
  pub filterable_attributes : List (List ℕ)
  pub max_total_hits : ℕ
  pub max_values_per_facet : ℕ
  pub ranking_rules : List (List ℕ)
  pub searchable_attributes : List (List ℕ)
  pub sortable_attributes : List (List ℕ)
  pub stop_words : List (List ℕ)
  pub synonyms : List SynonymView
