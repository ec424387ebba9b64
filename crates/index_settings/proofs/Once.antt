-- A patch that is given again changes nothing.
use Rattle.std.proofs.Common.{◌≡◌, ℕ, codes, Bool, true, false, Option, Some, None, Ok, refl, sym, ap, ◌∙◌}
use Rattle.std.specs.Prelude.{if◌then◌else◌}
use Rattle.serde_json.specs.Data.{Data}
use Rattle.serde_json.specs.Find.{get, as_str}
use Rattle.index_settings.specs.declared.fault.SettingsRefusal.{SettingsRefusal}
use Rattle.search_base.specs.Trying.{◌>>◌}
use Rattle.index_settings.specs.View.{SettingsView}
use Rattle.index_settings.specs.Values.{is_null, number_in, texts_in, synonyms_in}
use Rattle.index_settings.specs.Table.{defaults, patch_fault}
use Rattle.index_settings.specs.Patch.{chosen, patched}
use Rattle.index_settings.specs.Laws.{PatchIsDoneOnce}

-- a value that does not depend on the old one stays where it is chosen again
chosen_again : {A : Type 0} (old default : A) (held : Data → A) (o : Option Data) → chosen (chosen old default held o) default held o ≡ chosen old default held o
chosen_again old default held None = refl
chosen_again old default held (Some d) = refl

inside_again : (old default : ℕ) (null : Bool) (o : Option Data)
    → (if null then default else chosen (if null then default else chosen old default number_in o) default number_in o) ≡ (if null then default else chosen old default number_in o)
inside_again old default true o = refl
inside_again old default false o = chosen_again old default number_in o

number_again : (old default : ℕ) (inside : Data → Option Data) (o : Option Data)
    → (let now = chosen old default (λ d. chosen old default number_in (inside d)) o in chosen now default (λ d. chosen now default number_in (inside d)) o)
    ≡ chosen old default (λ d. chosen old default number_in (inside d)) o
number_again old default inside None = refl
number_again old default inside (Some d) = inside_again old default (is_null d) (inside d)

patched_again : (default old : SettingsView) (d : Data) → patched default (patched default old d) d ≡ patched default old d
patched_again default old d =
    rw (
      chosen_again old.displayed_attributes default.displayed_attributes texts_in (get (codes "displayedAttributes") d),
      chosen_again old.distinct_attribute default.distinct_attribute as_str (get (codes "distinctAttribute") d),
      chosen_again old.filterable_attributes default.filterable_attributes texts_in (get (codes "filterableAttributes") d),
      number_again old.max_total_hits default.max_total_hits (get (codes "maxTotalHits")) (get (codes "pagination") d),
      number_again old.max_values_per_facet default.max_values_per_facet (get (codes "maxValuesPerFacet")) (get (codes "faceting") d),
      chosen_again old.ranking_rules default.ranking_rules texts_in (get (codes "rankingRules") d),
      chosen_again old.searchable_attributes default.searchable_attributes texts_in (get (codes "searchableAttributes") d),
      chosen_again old.sortable_attributes default.sortable_attributes texts_in (get (codes "sortableAttributes") d),
      chosen_again old.stop_words default.stop_words texts_in (get (codes "stopWords") d),
      chosen_again old.synonyms default.synonyms synonyms_in (get (codes "synonyms") d),
    )

fault_or : (fault : Option SettingsRefusal) (one two new : SettingsView) → (fault >> Ok one) ≡ Ok new → (one ≡ new → two ≡ new) → (fault >> Ok two) ≡ Ok new
fault_or None one two new is same = ap (λ s. Ok s) (same cc)
fault_or (Some fault) one two new is same = cc

pub done_once : PatchIsDoneOnce
done_once old new d is =
    fault_or (patch_fault d) (patched defaults old d) (patched defaults new d) new is
    (λ same. ap (λ s. patched defaults s d) (sym same) ∙ patched_again defaults old d ∙ same)
