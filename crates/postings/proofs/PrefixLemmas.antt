-- The words that begin so stand in a row.
use Rattle.std.proofs.Common.{◌≡◌, ℕ, Bool, true, false, ◌&&◌, cond, List, [], ◌∷◌, Option, None, Some, nat_eq, refl, sym, ap, ◌∙◌}
use Rattle.std.specs.declared.cmp.Ordering.{Ordering}
use Rattle.std.specs.declared.cmp.Ordering.TheVariants.{Less, Equal, Greater}
use Rattle.std.specs.declared.ops.Bound.TheVariants.{Included, Unbounded}
use Rattle.std.specs.Cmp.Lexicographic.{nat_list_cmp_total}
use Rattle.std.specs.Ordering.{is_eq, is_le, nat_cmp, ordering_then}
use Rattle.std.specs.List.{starts_with, AllByRecursion}
use Rattle.std.specs.List.Sorted.{IsStrictlySortedBy}
use Rattle.std.specs.Map.{keys_of}
use Rattle.std.specs.BTreeMap.Range.{entries_between}
use Rattle.std.proofs.lemmas.Bool.{cond-true, cond-false, eqb-true, eq-eqb}
use Rattle.std.proofs.lemmas.Cmp.{nat_cmp_total, tied_itself}
use Rattle.std.proofs.lemmas.Map.Keys.{sorted_head, sorted_tail}
use Rattle.std.proofs.lemmas.Map.Lookups.{exact_unsigned}
use Rattle.std.specs.Option.{unwrap_or}
use Rattle.postings.specs.declared.slots.Slot.{Slot}
use Rattle.postings.specs.Dictionary.{word_cmp, value_at, entries_of, pages_in, some_list}
use Rattle.postings.specs.Prefixes.{entries_in, with_list, first_rows}
use Rattle.postings.proofs.WordLemmas.{same_word}

both : (a b : Bool) → (a && b) ≡ true → (a ≡ true) × (b ≡ true)
both true true h = (refl, refl)
both true false h = absurd (cc)
both false b h = absurd (cc)

-- a word that begins so is not below the prefix
pub not_below : (prefix word : List ℕ) → starts_with nat_eq word prefix ≡ true → is_le (word_cmp prefix word) ≡ true
not_below [] [] h = refl
not_below [] (y ∷ ys) h = refl
not_below (x ∷ xs) [] h = absurd (cc)
not_below (x ∷ xs) (y ∷ ys) h =
    let tests = both (nat_eq x y) (starts_with nat_eq ys xs) h in
    ap (λ o. is_le (ordering_then o (word_cmp xs ys))) (ap (nat_cmp x) (sym (eqb-true x y tests.0)) ∙ tied_itself nat_cmp_total x) ∙ not_below xs ys tests.1

-- a word that does not begin so, and is not below the prefix, is above all that begin so
pub above_all : (prefix word other : List ℕ) → is_le (word_cmp prefix word) ≡ true → starts_with nat_eq word prefix ≡ false → starts_with nat_eq other prefix ≡ true
    → word_cmp other word ≡ Less
above_all [] word other le misses begins = absurd (cc)
above_all (x ∷ xs) word [] le misses begins = absurd (cc)
above_all (x ∷ xs) [] (y ∷ ys) le misses begins = absurd (cc)
above_all (x ∷ xs) (z ∷ zs) (y ∷ ys) le misses begins =
    let tests = both (nat_eq x y) (starts_with nat_eq ys xs) begins in
    ap (λ n. ordering_then (nat_cmp n z) (word_cmp ys zs)) (sym (eqb-true x y tests.0))
    ∙ by (nat_cmp x z) refl le (above_all xs zs ys)
  where
    by : (o : Ordering) → o ≡ nat_cmp x z → is_le (ordering_then o (word_cmp xs zs)) ≡ true
        → (is_le (word_cmp xs zs) ≡ true → starts_with nat_eq zs xs ≡ false → starts_with nat_eq ys xs ≡ true → word_cmp ys zs ≡ Less)
        → ordering_then o (word_cmp ys zs) ≡ Less
    by Less s le later = refl
    by Equal s le later = later le (ap (λ b. b && starts_with nat_eq zs xs) (sym (eq-eqb x z (exact_unsigned x z (sym s)))) ∙ misses) (both (nat_eq x y) (starts_with nat_eq ys xs) begins).1
    by Greater s le later = absurd (cc)

-- what a list shows: nothing where it is empty
abbrev pub shown : List (Option Slot) → Option ℕ → Option (List ℕ)
shown slots o = some_list (entries_of (pages_in slots o))

-- a list that shows its entries, or nothing
pub listed : (word entries list : List ℕ) (rows : List (List ℕ × List ℕ)) → Some list ≡ some_list entries → with_list word entries rows ≡ (word, list) ∷ rows
listed word [] list rows some = absurd (cc)
listed word (x ∷ xs) list rows some = ap (λ o. (word, unwrap_or o list) ∷ rows) (sym some)

pub unlisted : (word entries : List ℕ) (rows : List (List ℕ × List ℕ)) → None ≡ some_list entries → with_list word entries rows ≡ rows
unlisted word [] rows none = refl
unlisted word (x ∷ xs) rows none = absurd (cc)

pub row_other : (w word entries : List ℕ) (rows : List (List ℕ × List ℕ)) → is_eq (word_cmp w word) ≡ false → value_at w (with_list word entries rows) ≡ value_at w rows
row_other w word [] rows h = refl
row_other w word (x ∷ xs) rows h = cond-false _ _ _ h

pub row_here : (w word entries : List ℕ) (rows : List (List ℕ × List ℕ)) → is_eq (word_cmp w word) ≡ true → value_at w rows ≡ None
    → value_at w (with_list word entries rows) ≡ some_list entries
row_here w word [] rows h none = none
row_here w word (x ∷ xs) rows h none = cond-true _ _ _ h

none_above : {X : Type 0} (w word : List ℕ) (rows : List (List ℕ × X)) → AllByRecursion (λ y. word_cmp word y ≡ Less) (keys_of rows) → word_cmp w word ≡ Less → value_at w rows ≡ None
none_above w word [] above less = refl
none_above w word (r ∷ rs) above less = cond-false _ _ _ (ap is_eq (nat_list_cmp_total.trans w word r.0 less above.0)) ∙ none_above w word rs above.1 less

pub none_equal : {X : Type 0} (w word : List ℕ) (rows : List (List ℕ × X)) → AllByRecursion (λ y. word_cmp word y ≡ Less) (keys_of rows) → is_eq (word_cmp w word) ≡ true → value_at w rows ≡ None
none_equal w word [] above same = refl
none_equal w word (r ∷ rs) above same =
    cond-false _ _ _ (ap is_eq (ap (λ v. word_cmp v r.0) (same_word w word same) ∙ above.0)) ∙ none_equal w word rs above.1 same

-- the entries from the prefix on, as a range of the map has them
abbrev pub from_prefix : List ℕ → List (List ℕ × ℕ) → List (List ℕ × ℕ)
from_prefix prefix lists = entries_between word_cmp (Included prefix) Unbounded lists

-- each list of a word that begins so is there, and no other
abbrev pub Shows : List (Option Slot) → List ℕ → List ℕ → List (List ℕ × ℕ) → List (List ℕ × List ℕ) → Type 0
Shows slots prefix w lists rows = value_at w rows ≡ cond (starts_with nat_eq w prefix) (shown slots (value_at w lists)) None

pub shows_all : (slots : List (Option Slot)) (prefix w : List ℕ) (lists : List (List ℕ × ℕ)) → IsStrictlySortedBy word_cmp (keys_of lists) → Shows slots prefix w lists (first_rows slots prefix (from_prefix prefix lists))
shows_all slots prefix w [] sorted = none (starts_with nat_eq w prefix)
  where
    none : (b : Bool) → ◌≡◌ {A = Option (List ℕ)} None (cond b None None)
    none true = refl
    none false = refl
shows_all slots prefix w (r ∷ rs) sorted =
    by_range (is_le (word_cmp prefix r.0)) (starts_with nat_eq r.0 prefix) (is_eq (word_cmp w r.0)) refl refl refl (shows_all slots prefix w rs (sorted_tail word_cmp r.0 (keys_of rs) sorted))
  where
    above : AllByRecursion (λ y. word_cmp r.0 y ≡ Less) (keys_of rs)
    above = sorted_head word_cmp r.0 (keys_of rs) sorted

    rest : List (List ℕ × ℕ)
    rest = from_prefix prefix rs

    clash : (b : Bool) → b ≡ true → b ≡ false → ⊥
    clash true h k = cc
    clash false h k = cc

    none_if : {X : Type 0} (b : Bool) (u : Option X) → (b ≡ true → u ≡ None) → None ≡ cond b u None
    none_if true u f = sym (f refl)
    none_if false u f = refl

    none_both : {X : Type 0} (b : Bool) → ◌≡◌ {A = Option X} (cond b None None) None
    none_both true = refl
    none_both false = refl

    unless : {X : Type 0} (b : Bool) (u v x : Option X) → (b ≡ true → u ≡ v) → cond b u x ≡ cond b v x
    unless true u v x f = f refl
    unless false u v x f = refl

    by_range : (inside starts same : Bool) → inside ≡ is_le (word_cmp prefix r.0) → starts ≡ starts_with nat_eq r.0 prefix → same ≡ is_eq (word_cmp w r.0)
        → Shows slots prefix w rs (first_rows slots prefix rest)
        → value_at w (first_rows slots prefix (cond (inside && true) (r ∷ rest) rest)) ≡ cond (starts_with nat_eq w prefix) (shown slots (cond same (Some r.1) (value_at w rs))) None
    by_range false starts false p q s later = later
    by_range false starts true p q s later = later ∙ unless (starts_with nat_eq w prefix) _ _ None
        (λ begins. absurd (clash (is_le (word_cmp prefix r.0)) (ap (λ v. is_le (word_cmp prefix v)) (sym (same_word w r.0 (sym s))) ∙ not_below prefix w begins) (sym p)))
    by_range true false same p q s later = ap (λ b. value_at w (cond b (with_list r.0 (entries_in slots r.1) (first_rows slots prefix rest)) [])) (sym q)
        ∙ none_if (starts_with nat_eq w prefix) (shown slots (cond same (Some r.1) (value_at w rs)))
        (λ begins.
        let less : word_cmp w r.0 ≡ Less = above_all prefix r.0 w (sym p) (sym q) begins in
        ap (λ b. shown slots (cond b (Some r.1) (value_at w rs))) (s ∙ ap is_eq less) ∙ ap (shown slots) (none_above w r.0 rs above less))
    by_range true true true p q s later = ap (λ b. value_at w (cond b (with_list r.0 (entries_in slots r.1) (first_rows slots prefix rest)) [])) (sym q)
        ∙ row_here w r.0 (entries_in slots r.1) (first_rows slots prefix rest) (sym s)
        (later ∙ ap (λ o. cond (starts_with nat_eq w prefix) (shown slots o) None) (none_equal w r.0 rs above (sym s)) ∙ none_both (starts_with nat_eq w prefix))
        ∙ sym (cond-true (starts_with nat_eq w prefix) _ _ (ap (λ v. starts_with nat_eq v prefix) (same_word w r.0 (sym s)) ∙ sym q))
    by_range true true false p q s later = ap (λ b. value_at w (cond b (with_list r.0 (entries_in slots r.1) (first_rows slots prefix rest)) [])) (sym q)
        ∙ row_other w r.0 (entries_in slots r.1) (first_rows slots prefix rest) (sym s) ∙ later

all_after : (slots : List (Option Slot)) (prefix word : List ℕ) (lists : List (List ℕ × ℕ)) → AllByRecursion (λ y. word_cmp word y ≡ Less) (keys_of lists)
    → AllByRecursion (λ y. word_cmp word y ≡ Less) (keys_of (first_rows slots prefix (from_prefix prefix lists)))
all_after slots prefix word [] above = tt
all_after slots prefix word (r ∷ rs) above = by_range (is_le (word_cmp prefix r.0)) (all_after slots prefix word rs above.1)
  where
    rest : List (List ℕ × ℕ)
    rest = from_prefix prefix rs

    one_more : (entries : List ℕ) → AllByRecursion (λ y. word_cmp word y ≡ Less) (keys_of (first_rows slots prefix rest))
        → AllByRecursion (λ y. word_cmp word y ≡ Less) (keys_of (with_list r.0 entries (first_rows slots prefix rest)))
    one_more [] later = later
    one_more (x ∷ xs) later = (above.0, later)

    starting : (b : Bool) → AllByRecursion (λ y. word_cmp word y ≡ Less) (keys_of (first_rows slots prefix rest))
        → AllByRecursion (λ y. word_cmp word y ≡ Less) (keys_of (cond b (with_list r.0 (entries_in slots r.1) (first_rows slots prefix rest)) []))
    starting true later = one_more (entries_in slots r.1) later
    starting false later = tt

    by_range : (b : Bool) → AllByRecursion (λ y. word_cmp word y ≡ Less) (keys_of (first_rows slots prefix rest))
        → AllByRecursion (λ y. word_cmp word y ≡ Less) (keys_of (first_rows slots prefix (cond (b && true) (r ∷ rest) rest)))
    by_range true later = starting (starts_with nat_eq r.0 prefix) later
    by_range false later = later

pub rows_sorted : (slots : List (Option Slot)) (prefix : List ℕ) (lists : List (List ℕ × ℕ)) → IsStrictlySortedBy word_cmp (keys_of lists)
    → IsStrictlySortedBy word_cmp (keys_of (first_rows slots prefix (from_prefix prefix lists)))
unfolding IsStrictlySortedBy
rows_sorted slots prefix [] sorted = tt
rows_sorted slots prefix (r ∷ rs) sorted =
    by_range (is_le (word_cmp prefix r.0)) (all_after slots prefix r.0 rs sorted.0) (rows_sorted slots prefix rs sorted.1)
  where
    rest : List (List ℕ × ℕ)
    rest = from_prefix prefix rs

    Above : Type 0
    Above = AllByRecursion (λ y. word_cmp r.0 y ≡ Less) (keys_of (first_rows slots prefix rest))

    Sorted : List (List ℕ × List ℕ) → Type 0
    Sorted rows = IsStrictlySortedBy word_cmp (keys_of rows)

    one_more : (entries : List ℕ) → Above → Sorted (first_rows slots prefix rest) → Sorted (with_list r.0 entries (first_rows slots prefix rest))
    one_more [] above later = later
    one_more (x ∷ xs) above later = (above, later)

    starting : (b : Bool) → Above → Sorted (first_rows slots prefix rest) → Sorted (cond b (with_list r.0 (entries_in slots r.1) (first_rows slots prefix rest)) [])
    starting true above later = one_more (entries_in slots r.1) above later
    starting false above later = tt

    by_range : (b : Bool) → Above → Sorted (first_rows slots prefix rest) → Sorted (first_rows slots prefix (cond (b && true) (r ∷ rest) rest))
    by_range true above later = starting (starts_with nat_eq r.0 prefix) above later
    by_range false above later = later

-- one word of the dictionary less, if it begins so and has a place
pub first_found : (slots : List (Option Slot)) (prefix word : List ℕ) (number : ℕ) (list : List ℕ) (rows : List (List ℕ × ℕ)) → starts_with nat_eq word prefix ≡ true
    → Some list ≡ some_list (entries_in slots number) → first_rows slots prefix ((word, number) ∷ rows) ≡ (word, list) ∷ first_rows slots prefix rows
first_found slots prefix word number list rows begins some = cond-true (starts_with nat_eq word prefix) _ [] begins ∙ listed word (entries_in slots number) list (first_rows slots prefix rows) some

pub first_passed : (slots : List (Option Slot)) (prefix word : List ℕ) (number : ℕ) (rows : List (List ℕ × ℕ)) → starts_with nat_eq word prefix ≡ true → None ≡ some_list (entries_in slots number)
    → first_rows slots prefix ((word, number) ∷ rows) ≡ first_rows slots prefix rows
first_passed slots prefix word number rows begins none = cond-true (starts_with nat_eq word prefix) _ [] begins ∙ unlisted word (entries_in slots number) (first_rows slots prefix rows) none

pub first_ends : (slots : List (Option Slot)) (prefix word : List ℕ) (number : ℕ) (rows : List (List ℕ × ℕ)) → starts_with nat_eq word prefix ≡ false
    → first_rows slots prefix ((word, number) ∷ rows) ≡ []
first_ends slots prefix word number rows fails = cond-false (starts_with nat_eq word prefix) _ [] fails
