-- Settings that use paths alike.
use Rattle.std.proofs.Common.{◌≡◌, ℕ, ◌+◌, true, List, [], ◌∷◌, Option, None, refl, ap, ◌∙◌}
use Rattle.std.specs.Prelude.{codes}
use Rattle.serde_json.specs.Data.{Data}
use Rattle.serde_json.specs.Find.{get}
use Rattle.index_settings.specs.View.{SettingsView}
use Rattle.index_settings.specs.Values.{texts_in}
use Rattle.index_settings.specs.Table.{defaults}
use Rattle.index_settings.specs.Patch.{chosen, patched}
use Rattle.search_settings.proofs.UseLemmas.{alike-uses}
use Rattle.search_settings.specs.Uses.{use_alike, use_of, uses_from}
use Rattle.index_changes.specs.Fetches.{LeavesUses}

-- ---- a patch that leaves the uses of paths, and the words for queries

-- the settings with these lists
abbrev with_lists : List (List ℕ) → List (List ℕ) → List (List ℕ) → List (List ℕ) → SettingsView → SettingsView
with_lists searchable filterable sortable rules s = record {
  displayed_attributes = s.displayed_attributes;
  distinct_attribute = s.distinct_attribute;
  filterable_attributes = filterable;
  max_total_hits = s.max_total_hits;
  max_values_per_facet = s.max_values_per_facet;
  ranking_rules = rules;
  searchable_attributes = searchable;
  sortable_attributes = sortable;
  stop_words = s.stop_words;
  synonyms = s.synonyms;
}

stays : {A : Type 0} (old default : A) (held : Data → A) (o : Option Data) → o ≡ None → chosen old default held o ≡ old
stays old default held o none = ap (chosen old default held) none

pub rules-patched : (old : SettingsView) (d : Data) → LeavesUses d → (patched defaults old d).ranking_rules ≡ old.ranking_rules
rules-patched old d h = stays old.ranking_rules defaults.ranking_rules texts_in (get (codes "rankingRules") d) h.rules

pub uses-patched : (old : SettingsView) (d : Data) → LeavesUses d → (paths : List (List ℕ)) → uses_from (patched defaults old d) 0 paths ≡ uses_from old 0 paths
uses-patched old d h paths =
    let new = patched defaults old d in
    ap (λ v. uses_from (with_lists v new.filterable_attributes new.sortable_attributes new.ranking_rules new) 0 paths) (stays old.searchable_attributes defaults.searchable_attributes texts_in (get (codes "searchableAttributes") d) h.searchable)
    ∙ ap (λ v. uses_from (with_lists old.searchable_attributes v new.sortable_attributes new.ranking_rules new) 0 paths) (stays old.filterable_attributes defaults.filterable_attributes texts_in (get (codes "filterableAttributes") d) h.filterable)
    ∙ ap (λ v. uses_from (with_lists old.searchable_attributes old.filterable_attributes v new.ranking_rules new) 0 paths) (stays old.sortable_attributes defaults.sortable_attributes texts_in (get (codes "sortableAttributes") d) h.sortable)
    ∙ ap (λ v. uses_from (with_lists old.searchable_attributes old.filterable_attributes old.sortable_attributes v new) 0 paths) (rules-patched old d h)
    ∙ same-lists 0 paths
  where
    same-lists : (number : ℕ) (paths : List (List ℕ)) → uses_from (with_lists old.searchable_attributes old.filterable_attributes old.sortable_attributes old.ranking_rules (patched defaults old d)) number paths ≡ uses_from old number paths
    same-lists number [] = refl
    same-lists number (path ∷ paths) = ap (λ v. use_of old path number ∷ v) (same-lists (number + 1) paths)

pub alike-patched : (old : SettingsView) (d : Data) → LeavesUses d → (paths : List (List ℕ)) → use_alike (patched defaults old d) old paths ≡ true
alike-patched old d h paths = alike-uses (uses_from (patched defaults old d) 0 paths) (uses_from old 0 paths) (uses-patched old d h paths)
