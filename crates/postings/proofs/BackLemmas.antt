-- The words up to a bound stand in a row, and are taken from the last on.
use Rattle.std.proofs.Common.{◌≡◌, ℕ, Bool, true, false, not, cond, List, [], ◌∷◌, ◌++◌, Option, None, Some, refl, sym, ap, subst, ◌∙◌}
use Rattle.std.specs.declared.ops.Bound.{Bound}
use Rattle.std.specs.declared.ops.Bound.TheVariants.{Unbounded}
use Rattle.std.specs.List.Sorted.{IsStrictlySortedBy}
use Rattle.std.specs.Map.{keys_of}
use Rattle.std.specs.BTreeMap.{is_at}
use Rattle.std.specs.BTreeMap.Range.{entries_between, is_past_end, range_contains}
use Rattle.std.proofs.lemmas.Map.Entries.{lookup-filter-keys}
use Rattle.std.proofs.lemmas.List.Kept.{IsStrictlySortedBy-filter}
use Rattle.postings.specs.declared.slots.Slot.{Slot}
use Rattle.postings.specs.Dictionary.{word_cmp, value_at, some_list}
use Rattle.postings.specs.Prefixes.{entries_in, with_list}
use Rattle.postings.specs.Words.{shown_rows}
use Rattle.postings.proofs.WordLemmas.{same_word}
use Rattle.postings.proofs.PrefixLemmas.{shown, listed, unlisted}
use Rattle.postings.proofs.FromLemmas.{shown_value, shown_sorted, keys_filter}

-- ---- one row less at the end

shown_append : (slots : List (Option Slot)) (xs ys : List (List ℕ × ℕ)) → shown_rows slots (xs ++ ys) ≡ shown_rows slots xs ++ shown_rows slots ys
shown_append slots [] ys = refl
shown_append slots (r ∷ rs) ys = ap (with_list r.0 (entries_in slots r.1)) (shown_append slots rs ys) ∙ by (entries_in slots r.1)
  where
    by : (entries : List ℕ) → with_list r.0 entries (shown_rows slots rs ++ shown_rows slots ys) ≡ with_list r.0 entries (shown_rows slots rs) ++ shown_rows slots ys
    by [] = refl
    by (x ∷ xs) = refl

pub last_found : (slots : List (Option Slot)) (word : List ℕ) (number : ℕ) (list : List ℕ) (rows : List (List ℕ × ℕ)) → Some list ≡ some_list (entries_in slots number)
    → shown_rows slots (rows ++ (word, number) ∷ []) ≡ shown_rows slots rows ++ (word, list) ∷ []
last_found slots word number list rows some =
    shown_append slots rows ((word, number) ∷ []) ∙ ap (λ r. shown_rows slots rows ++ r) (listed word (entries_in slots number) list [] some)

pub last_passed : (slots : List (Option Slot)) (word : List ℕ) (number : ℕ) (rows : List (List ℕ × ℕ)) → None ≡ some_list (entries_in slots number)
    → shown_rows slots (rows ++ (word, number) ∷ []) ≡ shown_rows slots rows
last_passed slots word number rows none =
    shown_append slots rows ((word, number) ∷ []) ∙ ap (λ r. shown_rows slots rows ++ r) (unlisted word (entries_in slots number) [] none) ∙ all (shown_rows slots rows)
  where
    all : (rs : List (List ℕ × List ℕ)) → rs ++ [] ≡ rs
    all [] = refl
    all (r ∷ rs) = ap (λ t. r ∷ t) (all rs)

-- ---- the words up to a bound

-- the entries up to a bound, as a range of the map has them
abbrev pub to_bound : Bound (List ℕ) → List (List ℕ × ℕ) → List (List ℕ × ℕ)
to_bound high lists = entries_between word_cmp Unbounded high lists

bound_sorted : (high : Bound (List ℕ)) (lists : List (List ℕ × ℕ)) → IsStrictlySortedBy word_cmp (keys_of lists)
    → IsStrictlySortedBy word_cmp (keys_of (to_bound high lists))
bound_sorted high lists sorted = subst (IsStrictlySortedBy word_cmp) (keys_filter (range_contains word_cmp Unbounded high) lists)
    (IsStrictlySortedBy-filter word_cmp (range_contains word_cmp Unbounded high) (keys_of lists) sorted)

pub to_sorted : (slots : List (Option Slot)) (high : Bound (List ℕ)) (lists : List (List ℕ × ℕ)) → IsStrictlySortedBy word_cmp (keys_of lists)
    → IsStrictlySortedBy word_cmp (keys_of (shown_rows slots (to_bound high lists)))
to_sorted slots high lists sorted = shown_sorted slots (to_bound high lists) (bound_sorted high lists sorted)

pub shows_to : (slots : List (Option Slot)) (high : Bound (List ℕ)) (w : List ℕ) (lists : List (List ℕ × ℕ)) → IsStrictlySortedBy word_cmp (keys_of lists)
    → value_at w (shown_rows slots (to_bound high lists)) ≡ cond (is_past_end word_cmp high w) None (shown slots (value_at w lists))
shows_to slots high w lists sorted = shown_value slots w (to_bound high lists) (bound_sorted high lists sorted)
    ∙ ap (shown slots) (lookup-filter-keys (is_at (word_cmp w)) (range_contains word_cmp Unbounded high) (range_contains word_cmp Unbounded high w)
    (λ k same. ap (range_contains word_cmp Unbounded high) (sym (same_word w k same))) lists)
    ∙ by (is_past_end word_cmp high w) (value_at w lists)
  where
    by : (past : Bool) (o : Option ℕ) → shown slots (cond (not past) o None) ≡ cond past None (shown slots o)
    by true o = refl
    by false o = refl
