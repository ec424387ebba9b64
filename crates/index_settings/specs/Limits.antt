-- What holds of all settings.
use Rattle.std.specs.Prelude.{◌≡◌, ◌≤◌, List, map, length, None}
use Rattle.std.specs.Ordering.{nat_cmp}
use Rattle.std.specs.Cmp.Lexicographic.{slice_cmp}
use Rattle.std.specs.List.Sorted.{IsStrictlySortedBy}
use Rattle.index_settings.specs.View.{SynonymView, SettingsView}
use Rattle.index_settings.specs.Rules.{bad_rule}

-- the keys ascend by their bytes, and each stands once
abbrev pub AreInOrder : List SynonymView → Type 0
AreInOrder lists = IsStrictlySortedBy (slice_cmp nat_cmp) (map (λ list. list.key) lists)

pub record IsSettings (s : SettingsView) : Type 0 where
  pub displayed : length s.displayed_attributes ≤ 65535
  pub searchable : length s.searchable_attributes ≤ 65535
  pub few_rules : length s.ranking_rules ≤ 32
  pub rules : bad_rule s.ranking_rules ≡ None
  pub hits : s.max_total_hits ≤ 1000000
  pub values : s.max_values_per_facet ≤ 1000000
  pub in_order : AreInOrder s.synonyms
