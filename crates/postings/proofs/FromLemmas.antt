-- The words from a bound on stand in a row.
use Rattle.std.proofs.Common.{◌≡◌, ℕ, Bool, true, false, ◌&&◌, cond, List, [], ◌∷◌, Option, None, Some, refl, sym, ap, subst, ◌∙◌}
use Rattle.std.specs.declared.cmp.Ordering.TheVariants.{Less}
use Rattle.std.specs.declared.ops.Bound.{Bound}
use Rattle.std.specs.declared.ops.Bound.TheVariants.{Unbounded}
use Rattle.std.specs.Ordering.{is_eq}
use Rattle.std.specs.List.{filter, AllByRecursion}
use Rattle.std.specs.List.Sorted.{IsStrictlySortedBy}
use Rattle.std.specs.Map.{keys_of}
use Rattle.std.specs.BTreeMap.{is_at}
use Rattle.std.specs.BTreeMap.Range.{entries_between, is_from_start, range_contains}
use Rattle.std.proofs.lemmas.Map.Entries.{lookup-filter-keys}
use Rattle.std.proofs.lemmas.Map.Keys.{sorted_head, sorted_tail}
use Rattle.std.proofs.lemmas.List.Kept.{IsStrictlySortedBy-filter}
use Rattle.postings.specs.declared.slots.Slot.{Slot}
use Rattle.postings.specs.Dictionary.{word_cmp, value_at, some_list}
use Rattle.postings.specs.Prefixes.{entries_in, with_list}
use Rattle.postings.specs.Words.{shown_rows}
use Rattle.postings.proofs.WordLemmas.{same_word}
use Rattle.postings.proofs.PrefixLemmas.{shown, listed, unlisted, row_other, row_here, none_equal}

-- each list that is not empty is shown at its word
pub shown_value : (slots : List (Option Slot)) (w : List ℕ) (lists : List (List ℕ × ℕ)) → IsStrictlySortedBy word_cmp (keys_of lists)
    → value_at w (shown_rows slots lists) ≡ shown slots (value_at w lists)
shown_value slots w [] sorted = refl
shown_value slots w (r ∷ rs) sorted =
    by (is_eq (word_cmp w r.0)) refl (shown_value slots w rs (sorted_tail word_cmp r.0 (keys_of rs) sorted))
  where
    by : (same : Bool) → same ≡ is_eq (word_cmp w r.0) → value_at w (shown_rows slots rs) ≡ shown slots (value_at w rs)
        → value_at w (with_list r.0 (entries_in slots r.1) (shown_rows slots rs)) ≡ shown slots (cond same (Some r.1) (value_at w rs))
    by true s later = row_here w r.0 (entries_in slots r.1) (shown_rows slots rs) (sym s)
        (later ∙ ap (shown slots) (none_equal w r.0 rs (sorted_head word_cmp r.0 (keys_of rs) sorted) (sym s)))
    by false s later = row_other w r.0 (entries_in slots r.1) (shown_rows slots rs) (sym s) ∙ later

all_shown : (slots : List (Option Slot)) (word : List ℕ) (lists : List (List ℕ × ℕ)) → AllByRecursion (λ y. word_cmp word y ≡ Less) (keys_of lists)
    → AllByRecursion (λ y. word_cmp word y ≡ Less) (keys_of (shown_rows slots lists))
all_shown slots word [] above = tt
all_shown slots word (r ∷ rs) above = by (entries_in slots r.1) (all_shown slots word rs above.1)
  where
    by : (entries : List ℕ) → AllByRecursion (λ y. word_cmp word y ≡ Less) (keys_of (shown_rows slots rs))
        → AllByRecursion (λ y. word_cmp word y ≡ Less) (keys_of (with_list r.0 entries (shown_rows slots rs)))
    by [] later = later
    by (x ∷ xs) later = (above.0, later)

pub shown_sorted : (slots : List (Option Slot)) (lists : List (List ℕ × ℕ)) → IsStrictlySortedBy word_cmp (keys_of lists)
    → IsStrictlySortedBy word_cmp (keys_of (shown_rows slots lists))
unfolding IsStrictlySortedBy
shown_sorted slots [] sorted = tt
shown_sorted slots (r ∷ rs) sorted = by (entries_in slots r.1) (all_shown slots r.0 rs sorted.0) (shown_sorted slots rs sorted.1)
  where
    by : (entries : List ℕ) → AllByRecursion (λ y. word_cmp r.0 y ≡ Less) (keys_of (shown_rows slots rs))
        → IsStrictlySortedBy word_cmp (keys_of (shown_rows slots rs))
        → IsStrictlySortedBy word_cmp (keys_of (with_list r.0 entries (shown_rows slots rs)))
    by [] above later = later
    by (x ∷ xs) above later = (above, later)

pub keys_filter : (p : List ℕ → Bool) (lists : List (List ℕ × ℕ)) → filter p (keys_of lists) ≡ keys_of (filter (λ e. p e.0) lists)
keys_filter p [] = refl
keys_filter p (r ∷ rs) = by (p r.0) (keys_filter p rs)
  where
    by : (b : Bool) → filter p (keys_of rs) ≡ keys_of (filter (λ e. p e.0) rs)
        → cond b (r.0 ∷ filter p (keys_of rs)) (filter p (keys_of rs))
        ≡ keys_of (cond b (r ∷ filter (λ e. p e.0) rs) (filter (λ e. p e.0) rs))
    by true later = ap (λ ks. r.0 ∷ ks) later
    by false later = later

-- the entries from a bound on, as a range of the map has them
abbrev pub from_bound : Bound (List ℕ) → List (List ℕ × ℕ) → List (List ℕ × ℕ)
from_bound low lists = entries_between word_cmp low Unbounded lists

bound_sorted : (low : Bound (List ℕ)) (lists : List (List ℕ × ℕ)) → IsStrictlySortedBy word_cmp (keys_of lists)
    → IsStrictlySortedBy word_cmp (keys_of (from_bound low lists))
bound_sorted low lists sorted = subst (IsStrictlySortedBy word_cmp) (keys_filter (range_contains word_cmp low Unbounded) lists)
    (IsStrictlySortedBy-filter word_cmp (range_contains word_cmp low Unbounded) (keys_of lists) sorted)

pub from_sorted : (slots : List (Option Slot)) (low : Bound (List ℕ)) (lists : List (List ℕ × ℕ)) → IsStrictlySortedBy word_cmp (keys_of lists)
    → IsStrictlySortedBy word_cmp (keys_of (shown_rows slots (from_bound low lists)))
from_sorted slots low lists sorted = shown_sorted slots (from_bound low lists) (bound_sorted low lists sorted)

pub shows_from : (slots : List (Option Slot)) (low : Bound (List ℕ)) (w : List ℕ) (lists : List (List ℕ × ℕ)) → IsStrictlySortedBy word_cmp (keys_of lists)
    → value_at w (shown_rows slots (from_bound low lists)) ≡ cond (is_from_start word_cmp low w) (shown slots (value_at w lists)) None
shows_from slots low w lists sorted = shown_value slots w (from_bound low lists) (bound_sorted low lists sorted)
    ∙ ap (shown slots) (lookup-filter-keys (is_at (word_cmp w)) (range_contains word_cmp low Unbounded) (range_contains word_cmp low Unbounded w)
    (λ k same. ap (range_contains word_cmp low Unbounded) (sym (same_word w k same))) lists)
    ∙ by (is_from_start word_cmp low w) (value_at w lists)
  where
    by : (b : Bool) (o : Option ℕ) → shown slots (cond (b && true) o None) ≡ cond b (shown slots o) None
    by true o = refl
    by false o = refl

-- one row less
pub shown_found : (slots : List (Option Slot)) (word : List ℕ) (number : ℕ) (list : List ℕ) (rows : List (List ℕ × ℕ)) → Some list ≡ some_list (entries_in slots number)
    → shown_rows slots ((word, number) ∷ rows) ≡ (word, list) ∷ shown_rows slots rows
shown_found slots word number list rows some = listed word (entries_in slots number) list (shown_rows slots rows) some

pub shown_passed : (slots : List (Option Slot)) (word : List ℕ) (number : ℕ) (rows : List (List ℕ × ℕ)) → None ≡ some_list (entries_in slots number)
    → shown_rows slots ((word, number) ∷ rows) ≡ shown_rows slots rows
shown_passed slots word number rows none = unlisted word (entries_in slots number) (shown_rows slots rows) none
