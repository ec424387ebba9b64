-- What is printed of settings, taken as a patch, gives them back.
use Rattle.std.proofs.Common.{◌≡◌, ℕ, suc, ◌≤◌, List, [], ◌∷◌, length, map, true, false, codes, Option, None, Some, refl, ap, ◌∙◌, arith}
use Rattle.std.proofs.lemmas.Bool.{le-leb, and_from}
use Rattle.std.specs.Prelude.{nat_le, if◌then◌else◌}
use Rattle.serde_json.specs.Data.{string, depth, items_depth, members_depth}
use Rattle.serde_json.specs.Events.{items_len}
use Rattle.serde_json.specs.Find.{as_str}
use Rattle.serde_json.specs.Read.{max_depth}
use Rattle.serde_json.specs.View.{items_of}
use Rattle.serde_json.specs.Written.{has_float, items_have_float, members_have_float}
use Rattle.index_settings.specs.declared.shape.Shape.TheVariants as shape
use Rattle.index_settings.specs.View.{SynonymView, SettingsView}
use Rattle.index_settings.specs.Values.{is_null, items_are_texts, item_texts, members_are_texts, member_synonyms, are_texts_up_to}
use Rattle.index_settings.specs.Table.{fault_at}
use Rattle.index_settings.specs.Json.{texts_data, text_or_null, synonym_members, settings_data}
use Rattle.index_settings.specs.Laws.{PrintedGivesBack}

pub are_texts-printed : (texts : List (List ℕ)) → items_are_texts (items_of (map string texts)) ≡ true
are_texts-printed [] = refl
are_texts-printed (text ∷ texts) = are_texts-printed texts

pub texts_in-printed : (texts : List (List ℕ)) → item_texts (items_of (map string texts)) ≡ texts
texts_in-printed [] = refl
texts_in-printed (text ∷ texts) = ap (λ ts. text ∷ ts) (texts_in-printed texts)

items_len-printed : (texts : List (List ℕ)) → items_len (items_of (map string texts)) ≡ length texts
items_len-printed [] = refl
items_len-printed (text ∷ texts) = ap suc (items_len-printed texts)

few-printed : (most : ℕ) (texts : List (List ℕ)) → length texts ≤ most → are_texts_up_to most (texts_data texts) ≡ true
few-printed most texts few = and_from _ _ (ap (λ n. nat_le n most) (items_len-printed texts) ∙ le-leb (length texts) most few) (are_texts-printed texts)

are_synonyms-printed : (lists : List SynonymView) → members_are_texts (synonym_members lists) ≡ true
are_synonyms-printed [] = refl
are_synonyms-printed (list ∷ lists) = and_from _ _ (are_texts-printed list.texts) (are_synonyms-printed lists)

synonyms_in-printed : (lists : List SynonymView) → member_synonyms (synonym_members lists) ≡ lists
synonyms_in-printed [] = refl
synonyms_in-printed (list ∷ lists) = rw (texts_in-printed list.texts, synonyms_in-printed lists)

attribute_right : (name : List ℕ) (o : Option (List ℕ)) → fault_at (Some shape.Attribute) name (text_or_null o) ≡ None
attribute_right name None = refl
attribute_right name (Some text) = refl

attribute_in : (o : Option (List ℕ)) → (if is_null (text_or_null o) then None else as_str (text_or_null o)) ≡ o
attribute_in None = refl
attribute_in (Some text) = refl

pub printed_back : PrintedGivesBack
printed_back old s h =
    rw (
      few-printed 65535 s.displayed_attributes h.displayed,
      texts_in-printed s.displayed_attributes,
      attribute_right (codes "distinctAttribute") s.distinct_attribute,
      attribute_in s.distinct_attribute,
      le-leb s.max_values_per_facet 1000000 h.values,
      are_texts-printed s.filterable_attributes,
      texts_in-printed s.filterable_attributes,
      le-leb s.max_total_hits 1000000 h.hits,
      few-printed 32 s.ranking_rules h.few_rules,
      texts_in-printed s.ranking_rules,
      h.rules,
      few-printed 65535 s.searchable_attributes h.searchable,
      texts_in-printed s.searchable_attributes,
      are_texts-printed s.sortable_attributes,
      texts_in-printed s.sortable_attributes,
      are_texts-printed s.stop_words,
      texts_in-printed s.stop_words,
      are_synonyms-printed s.synonyms,
      synonyms_in-printed s.synonyms,
    )

-- ---- no number of what is printed is a float, and it nests three deep at most

no_float-texts : (texts : List (List ℕ)) → items_have_float (items_of (map string texts)) ≡ false
no_float-texts [] = refl
no_float-texts (text ∷ texts) = no_float-texts texts

no_float-synonyms : (lists : List SynonymView) → members_have_float (synonym_members lists) ≡ false
no_float-synonyms [] = refl
no_float-synonyms (list ∷ lists) = rw (no_float-texts list.texts, no_float-synonyms lists)

no_float-text : (o : Option (List ℕ)) → has_float (text_or_null o) ≡ false
no_float-text None = refl
no_float-text (Some text) = refl

pub no_float-printed : (s : SettingsView) → has_float (settings_data s) ≡ false
no_float-printed s =
    rw (
      no_float-texts s.displayed_attributes,
      no_float-text s.distinct_attribute,
      no_float-texts s.filterable_attributes,
      no_float-texts s.ranking_rules,
      no_float-texts s.searchable_attributes,
      no_float-texts s.sortable_attributes,
      no_float-texts s.stop_words,
      no_float-synonyms s.synonyms,
    )

depth-texts : (texts : List (List ℕ)) → items_depth (items_of (map string texts)) ≡ 0
depth-texts [] = refl
depth-texts (text ∷ texts) = rw (depth-texts texts)

depth-synonyms : (lists : List SynonymView) → members_depth (synonym_members lists) ≤ 1
depth-synonyms [] = omega arith
depth-synonyms (list ∷ lists) = omega (arith, depth-texts list.texts, depth-synonyms lists)

depth-text : (o : Option (List ℕ)) → depth (text_or_null o) ≡ 0
depth-text None = refl
depth-text (Some text) = refl

pub shallow-printed : (s : SettingsView) → depth (settings_data s) ≤ max_depth
shallow-printed s =
    omega (
      arith,
      depth-texts s.displayed_attributes,
      depth-text s.distinct_attribute,
      depth-texts s.filterable_attributes,
      depth-texts s.ranking_rules,
      depth-texts s.searchable_attributes,
      depth-texts s.sortable_attributes,
      depth-texts s.stop_words,
      depth-synonyms s.synonyms,
    )
