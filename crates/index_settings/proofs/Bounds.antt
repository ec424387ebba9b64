-- What a patch that has no fault leaves within the limits.
use Rattle.std.proofs.Common.{◌≡◌, ℕ, suc, ◌≤◌, List, ◌∷◌, length, codes, Bool, true, false, ◌||◌, Option, Some, None, Ordering, Less, Equal, Greater, nat_cmp, refl, sym, ap, ◌∙◌, ◌++◌, arith, true≢false}
use Rattle.std.proofs.lemmas.Bool.{and_parts, leb-true, cond_both}
use Rattle.std.proofs.lemmas.Map.Text.{is_eq-slice_cmp}
use Rattle.std.proofs.lemmas.Slice.Eq.{bytes_eq-Decides}
use Rattle.std.specs.Cmp.Lexicographic.{slice_cmp}
use Rattle.std.specs.Ordering.{match_ordering, is_eq}
use Rattle.std.specs.Prelude.{if◌then◌else◌, unwrap_or, option_and_then}
use Rattle.serde_json.specs.Data.{Data, null, boolean, number, string, array, object, Items, no_items, item, Members, no_members, member}
use Rattle.serde_json.specs.Events.{items_len}
use Rattle.serde_json.specs.Find.{get, get_member, as_str, as_number, as_u64}
use Rattle.index_settings.specs.declared.fault.SettingsRefusal.{SettingsRefusal}
use Rattle.index_settings.specs.declared.fault.SettingsRefusal.TheVariants.{WrongShape}
use Rattle.search_base.specs.Trying.{first_of}
use Rattle.index_settings.specs.View.{SettingsView}
use Rattle.index_settings.specs.Values.{is_null, is_within, is_number_up_to, number_in, with_text, item_texts, texts_in, are_texts_up_to}
use Rattle.index_settings.specs.Rules.{bad_rule}
use Rattle.index_settings.specs.Table.{wrong_unless, inner_fault, first_inner, nested_fault, member_fault, first_fault, patch_fault, defaults}
use Rattle.index_settings.specs.Patch.{chosen, patched}
use Rattle.index_settings.specs.Limits.{IsSettings, AreInOrder}
use Rattle.index_settings.proofs.Ordered.{in_order_none}

-- ---- no fault

none_first : (a b : Option SettingsRefusal) → first_of a b ≡ None → a ≡ None
none_first None b h = refl
none_first (Some fault) b h = cc

none_later : (a b : Option SettingsRefusal) → first_of a b ≡ None → b ≡ None
none_later None b h = h
none_later (Some fault) b h = cc

same_name : (k l : List ℕ) → slice_cmp nat_cmp k l ≡ Equal → l ≡ k
same_name k l equal = sym ((bytes_eq-Decides k l).0 (sym (is_eq-slice_cmp k l) ∙ ap is_eq equal))

-- a member that has no fault, found by its name
at_member : (o : Ordering) (k l : List ℕ) (d v : Data) (fault : List ℕ → Data → Option SettingsRefusal) (rest : Option Data) → slice_cmp nat_cmp k l ≡ o → fault l d ≡ None
    → (rest ≡ Some v → fault k v ≡ None) → match_ordering o rest (Some d) rest ≡ Some v → fault k v ≡ None
at_member Less k l d v fault rest is here later found = later found
at_member Equal k l d v fault rest is here later found =
    let same : d ≡ v = cc in
    rw (← same_name k l is, ← same) here
at_member Greater k l d v fault rest is here later found = later found

member_right : (k : List ℕ) (ms : Members) (v : Data) → first_fault ms ≡ None → get_member k ms ≡ Some v → member_fault k v ≡ None
member_right k no_members v none found = cc
member_right k (member l d ms) v none found =
    at_member (slice_cmp nat_cmp k l) k l d v member_fault (get_member k ms) refl (none_first (member_fault l d) (first_fault ms) none)
    (member_right k ms v (none_later (member_fault l d) (first_fault ms) none)) found

value_right : (k : List ℕ) (patch v : Data) → patch_fault patch ≡ None → get k patch ≡ Some v → member_fault k v ≡ None
value_right k null v none found = cc
value_right k (boolean b) v none found = cc
value_right k (number n) v none found = cc
value_right k (string s) v none found = cc
value_right k (array ds) v none found = cc
value_right k (object ms) v none found = member_right k ms v none found

inner_member_right : (outer inner k : List ℕ) (ms : Members) (v : Data) → first_inner outer inner ms ≡ None → get_member k ms ≡ Some v → inner_fault outer inner k v ≡ None
inner_member_right outer inner k no_members v none found = cc
inner_member_right outer inner k (member l d ms) v none found =
    at_member (slice_cmp nat_cmp k l) k l d v (inner_fault outer inner) (get_member k ms) refl (none_first (inner_fault outer inner l d) (first_inner outer inner ms) none)
    (inner_member_right outer inner k ms v (none_later (inner_fault outer inner l d) (first_inner outer inner ms) none)) found

inner_right : (outer inner k : List ℕ) (d v : Data) → nested_fault outer inner d ≡ None → get k d ≡ Some v → inner_fault outer inner k v ≡ None
inner_right outer inner k null v none found = cc
inner_right outer inner k (boolean b) v none found = cc
inner_right outer inner k (number n) v none found = cc
inner_right outer inner k (string s) v none found = cc
inner_right outer inner k (array ds) v none found = cc
inner_right outer inner k (object ms) v none found = inner_member_right outer inner k ms v none found

-- ---- what the tests say

right_of : (right : Bool) (name : List ℕ) → wrong_unless right name ≡ None → right ≡ true
right_of true name none = refl
right_of false name none = cc

not_null : (b : Bool) (fault : Option SettingsRefusal) → (if b then None else fault) ≡ None → b ≡ false → fault ≡ None
not_null true fault none is = absurd (true≢false is)
not_null false fault none is = none

both_right : (right : Bool) (fault : Option SettingsRefusal) (name : List ℕ) → (if right then fault else Some (WrongShape name)) ≡ None → (right ≡ true) × (fault ≡ None)
both_right true fault name none = (refl, none)
both_right false fault name none = cc

or_right : (a b : Bool) → a || b ≡ true → a ≡ false → b ≡ true
or_right true b h is = absurd (true≢false is)
or_right false b h is = h

with_text_few : (o : Option (List ℕ)) (texts : List (List ℕ)) → length (with_text o texts) ≤ suc (length texts)
with_text_few None texts = omega arith
with_text_few (Some text) texts = omega arith

item_texts_few : (ds : Items) → length (item_texts ds) ≤ items_len ds
item_texts_few no_items = omega arith
item_texts_few (item d ds) = omega (arith, with_text_few (as_str d) (item_texts ds), item_texts_few ds)

texts_few : (most : ℕ) (d : Data) → are_texts_up_to most d ≡ true → length (texts_in d) ≤ most
texts_few most null right = omega arith
texts_few most (boolean b) right = omega arith
texts_few most (number n) right = omega arith
texts_few most (string s) right = omega arith
texts_few most (array ds) right = omega (arith, item_texts_few ds, leb-true (items_len ds) most (and_parts _ _ right).0)
texts_few most (object ms) right = omega arith

within : (most : ℕ) (o : Option ℕ) → is_within most o ≡ true → unwrap_or o 0 ≤ most
within most None right = omega arith
within most (Some n) right = leb-true n most right

-- ---- a member after a patch

-- what holds of the old value, of the default and of a value that has no fault
chosen_has : {A : Type 0} (P : A → Type 0) (old default : A) (held : Data → A) (o : Option Data) → P old → P default
    → ((d : Data) → o ≡ Some d → is_null d ≡ false → P (held d)) → P (chosen old default held o)
chosen_has P old default held None was fresh given = was
chosen_has P old default held (Some d) was fresh given = cond_both (is_null d) default (held d) P (λ _. fresh) (λ other. given d refl other)

module _ (patch : Data) (none : patch_fault patch ≡ None) where
  few_entries : (name : List ℕ) → ((d : Data) → member_fault name d ≡ (if is_null d then None else wrong_unless (are_texts_up_to 65535 d) name))
      → (old default : List (List ℕ)) → length old ≤ 65535 → length default ≤ 65535 → length (chosen old default texts_in (get name patch)) ≤ 65535
  few_entries name shaped old default was fresh =
      chosen_has (λ texts. length texts ≤ 65535) old default texts_in (get name patch) was fresh
      (λ d found other. texts_few 65535 d (right_of (are_texts_up_to 65535 d) name (not_null (is_null d) (wrong_unless (are_texts_up_to 65535 d) name) (sym (shaped d) ∙ value_right name patch d none found) other)))

  rules_right : (d : Data) → get (codes "rankingRules") patch ≡ Some d → is_null d ≡ false → (are_texts_up_to 32 d ≡ true) × (bad_rule (texts_in d) ≡ None)
  rules_right d found other =
      let name = codes "rankingRules" in
      let fault : Option SettingsRefusal = if are_texts_up_to 32 d then bad_rule (texts_in d) else Some (WrongShape name) in
      both_right (are_texts_up_to 32 d) (bad_rule (texts_in d)) name (not_null (is_null d) fault (value_right name patch d none found) other)

  small_number : (outer inner : List ℕ) → ((d : Data) → member_fault outer d ≡ (if is_null d then None else nested_fault outer inner d))
      → ((d : Data) → inner_fault outer inner inner d ≡ wrong_unless (is_null d || is_number_up_to 1000000 d) (outer ++ 46 ∷ inner))
      → (old default : ℕ) → old ≤ 1000000 → default ≤ 1000000
      → chosen old default (λ inside. chosen old default number_in (get inner inside)) (get outer patch) ≤ 1000000
  small_number outer inner shaped nested old default was fresh =
      let small : ℕ → Type 0 = λ n. n ≤ 1000000 in
      chosen_has small old default (λ inside. chosen old default number_in (get inner inside)) (get outer patch) was fresh
      (λ d found other.
      let right : nested_fault outer inner d ≡ None = not_null (is_null d) (nested_fault outer inner d) (sym (shaped d) ∙ value_right outer patch d none found) other in
      chosen_has small old default number_in (get inner d) was fresh
      (λ e inside given. within 1000000 (option_and_then as_u64 (as_number e))
      (or_right (is_null e) (is_number_up_to 1000000 e)
      (right_of (is_null e || is_number_up_to 1000000 e) (outer ++ 46 ∷ inner) (sym (nested e) ∙ inner_right outer inner inner d e right inside)) given)))

  -- settings stay within the limits
  pub patched_within : (default old : SettingsView) → IsSettings default → IsSettings old → AreInOrder (patched default old patch).synonyms → IsSettings (patched default old patch)
  patched_within default old fresh was in_order = record {
    displayed = few_entries (codes "displayedAttributes") (λ d. refl) old.displayed_attributes default.displayed_attributes was.displayed fresh.displayed;
    searchable = few_entries (codes "searchableAttributes") (λ d. refl) old.searchable_attributes default.searchable_attributes was.searchable fresh.searchable;
    few_rules = chosen_has (λ texts. length texts ≤ 32) old.ranking_rules default.ranking_rules texts_in (get (codes "rankingRules") patch) was.few_rules fresh.few_rules (λ d found other. texts_few 32 d (rules_right d found other).0);
    rules = chosen_has (λ texts. bad_rule texts ≡ None) old.ranking_rules default.ranking_rules texts_in (get (codes "rankingRules") patch) was.rules fresh.rules (λ d found other. (rules_right d found other).1);
    hits = small_number (codes "pagination") (codes "maxTotalHits") (λ d. refl) (λ d. refl) old.max_total_hits default.max_total_hits was.hits fresh.hits;
    values = small_number (codes "faceting") (codes "maxValuesPerFacet") (λ d. refl) (λ d. refl) old.max_values_per_facet default.max_values_per_facet was.values fresh.values;
    in_order = in_order;
  }

-- the defaults are within the limits
pub defaults_within : IsSettings defaults
defaults_within = record { displayed = omega arith; searchable = omega arith; few_rules = omega arith; rules = refl; hits = omega arith; values = omega arith; in_order = in_order_none }
