-- The next word in a direction.
use Rattle.std.proofs.Common.{◌≡◌, ℕ, Bool, true, false, not, ◌||◌, cond, List, [], ◌∷◌, reverse, Bor, Option, None, Some, refl, sym, ap, subst, ◌∙◌}
use Rattle.std.proofs.lemmas.List.{reverse-append}
use Rattle.std.specs.declared.cmp.Ordering.{Ordering}
use Rattle.std.specs.declared.cmp.Ordering.TheVariants.{Less, Equal, Greater}
use Rattle.std.specs.declared.ops.Bound.{Bound}
use Rattle.std.specs.Ordering.{is_eq, is_lt, is_le, ordering_reverse}
use Rattle.std.specs.Cmp.Lexicographic.{nat_list_cmp_total}
use Rattle.std.specs.BTreeMap.Range.{is_past_end}
use Rattle.std.specs.List.{find, AllByRecursion}
use Rattle.std.specs.List.Sorted.{IsStrictlySortedBy}
use Rattle.std.specs.Map.{keys_of}
use Rattle.std.specs.Option.{option_map, option_or, option_copied, IfSome, IfNone}
use Rattle.std.proofs.lemmas.Bool.{both_ways, or_left, or_parts}
use Rattle.std.proofs.lemmas.Cmp.{tied_itself}
use Rattle.std.proofs.lemmas.List.Folds.{find-append}
use Rattle.std.proofs.lemmas.Map.Keys.{sorted_head, sorted_tail}
use Rattle.std.proofs.lemmas.Map.Lookups.{exact_bytes}
use Rattle.postings.specs.Dictionary.{PostingsView, word_cmp, value_at, list_at, some_list}
use Rattle.facet_keys.specs.Values.{is_end_of}
use Rattle.facet_index.specs.Starts.{bound_by, is_from, in_direction, stops_at, word_order, IsNext, HasNoneFrom}
use Rattle.facet_index.proofs.HeldLemmas.{is_in, in_none}
use Rattle.facet_index.proofs.RowLemmas.{value_here, value_later}

-- ---- the words from a start on

-- the rows from a start on, in the direction, of posting lists
abbrev pub AreRowsOn : Bool → Bool → List ℕ → PostingsView → List (List ℕ × List ℕ) → Type 0
AreRowsOn up behind start view rows = (word : List ℕ) → value_at word rows ≡ cond (is_from up behind start word) (some_list (list_at word view)) None

past_is : (behind : Bool) (start word : List ℕ) → is_past_end word_cmp (bound_by behind start) word ≡ not (is_from false behind start word)
past_is true start word = ap is_le (nat_list_cmp_total.antisymm start word) ∙ by (word_cmp word start)
  where
    by : (o : Ordering) → is_le (ordering_reverse o) ≡ not (is_lt o)
    by Less = refl
    by Equal = refl
    by Greater = refl
past_is false start word = ap is_lt (nat_list_cmp_total.antisymm start word) ∙ by (word_cmp word start)
  where
    by : (o : Ordering) → is_lt (ordering_reverse o) ≡ not (is_le o)
    by Less = refl
    by Equal = refl
    by Greater = refl

pub rows_down : (up behind : Bool) (start : List ℕ) (high : Bound (List ℕ)) (view : PostingsView) (rows : List (List ℕ × List ℕ)) → up ≡ false → high ≡ bound_by behind start
    → ((word : List ℕ) → value_at word rows ≡ cond (is_past_end word_cmp high word) None (some_list (list_at word view))) → AreRowsOn up behind start view rows
rows_down true behind start high view rows downward bound are word = absurd (cc)
rows_down false behind start high view rows downward bound are word =
    are word ∙ ap (λ b. cond b None (some_list (list_at word view))) (ap (λ b. is_past_end word_cmp b word) bound ∙ past_is behind start word)
    ∙ by (is_from false behind start word)
  where
    by : (b : Bool) → cond (not b) None (some_list (list_at word view)) ≡ cond b (some_list (list_at word view)) None
    by true = refl
    by false = refl

-- ---- rows in order

equal : (o : Ordering) → is_eq o ≡ true → o ≡ Equal
equal Less e = absurd (cc)
equal Equal e = refl
equal Greater e = absurd (cc)

-- what holds of each row holds of that at a word
at_row : (P : List ℕ × List ℕ → Type 0) (word list : List ℕ) (rows : List (List ℕ × List ℕ)) → AllByRecursion P rows → value_at word rows ≡ Some list → P (word, list)
at_row P word list [] all has = absurd (cc)
at_row P word list (r ∷ rs) all has = by (is_eq (word_cmp word r.0)) refl has (at_row P word list rs all.1)
  where
    by : (same : Bool) → same ≡ is_eq (word_cmp word r.0) → cond same (Some r.1) (value_at word rs) ≡ Some list
        → (value_at word rs ≡ Some list → P (word, list)) → P (word, list)
    by true s h later =
        let its : r.1 ≡ list = cc in
        subst (λ w. P (w, list)) (sym (exact_bytes word r.0 (equal (word_cmp word r.0) (sym s)))) (subst (λ l. P (r.0, l)) its all.0)
    by false s h later = later h

rows_after : (word : List ℕ) (rows : List (List ℕ × List ℕ)) → AllByRecursion (λ y. word_cmp word y ≡ Less) (keys_of rows)
    → AllByRecursion (λ r. word_cmp word r.0 ≡ Less) rows
rows_after word [] all = tt
rows_after word (r ∷ rs) all = (all.0, rows_after word rs all.1)

-- the row passes, and none that passes comes before it in the direction
abbrev IsFirst : Bool → (List ℕ × List ℕ → Bool) → List (List ℕ × List ℕ) → List ℕ × List ℕ → Type 0
IsFirst up test rows row = (value_at row.0 rows ≡ Some row.1) × (test row ≡ true)
    × AllByRecursion (λ r. test r ≡ true → is_le (word_order up row.0 r.0) ≡ true) rows

-- no row passes
abbrev NonePasses : (List ℕ × List ℕ → Bool) → List (List ℕ × List ℕ) → Type 0
NonePasses test rows = AllByRecursion (λ r. test r ≡ false) rows

-- what stands at a word of the later rows
later_row : (r : List ℕ × List ℕ) (rs : List (List ℕ × List ℕ)) (word list : List ℕ)
    → IsStrictlySortedBy word_cmp (keys_of (r ∷ rs)) → value_at word rs ≡ Some list → (word_cmp r.0 word ≡ Less) × (value_at word (r ∷ rs) ≡ Some list)
later_row r rs word list sorted has =
    let less = at_row (λ x. word_cmp r.0 x.0 ≡ Less) word list rs (rows_after r.0 rs (sorted_head word_cmp r.0 (keys_of rs) sorted)) has in
    (less, value_later word r.0 r.1 rs less ∙ has)

-- ---- upward

none_up : (test : List ℕ × List ℕ → Bool) (rows : List (List ℕ × List ℕ)) → find test rows ≡ None → NonePasses test rows
none_up test [] none = tt
none_up test (r ∷ rs) none = by (test r) refl none (none_up test rs)
  where
    by : (b : Bool) → b ≡ test r → cond b (Some r) (find test rs) ≡ None → (find test rs ≡ None → NonePasses test rs) → NonePasses test (r ∷ rs)
    by true s h later = absurd (cc)
    by false s h later = (sym s, later h)

up_to : (test : List ℕ × List ℕ → Bool) (word : List ℕ) (rows : List (List ℕ × List ℕ)) → AllByRecursion (λ r. word_cmp word r.0 ≡ Less) rows
    → AllByRecursion (λ r. test r ≡ true → is_le (word_cmp word r.0) ≡ true) rows
up_to test word [] all = tt
up_to test word (r ∷ rs) all = (λ _. ap is_le all.0, up_to test word rs all.1)

first_up : (test : List ℕ × List ℕ → Bool) (rows : List (List ℕ × List ℕ)) (row : List ℕ × List ℕ) → IsStrictlySortedBy word_cmp (keys_of rows)
    → find test rows ≡ Some row → IsFirst true test rows row
first_up test [] row sorted found = absurd (cc)
first_up test (r ∷ rs) row sorted found = by (test r) refl found (first_up test rs row (sorted_tail word_cmp r.0 (keys_of rs) sorted))
  where
    by : (b : Bool) → b ≡ test r → cond b (Some r) (find test rs) ≡ Some row → (find test rs ≡ Some row → IsFirst true test rs row)
        → IsFirst true test (r ∷ rs) row
    by true s h later =
        let same : r ≡ row = cc in
        subst (IsFirst true test (r ∷ rs)) same
        (value_here r rs, sym s, (λ _. ap is_le (tied_itself nat_list_cmp_total r.0), up_to test r.0 rs (rows_after r.0 rs (sorted_head word_cmp r.0 (keys_of rs) sorted))))
    by false s h later =
        let first = later h in
        ((later_row r rs row.0 row.1 sorted first.0).1, first.1, (λ yes. absurd (both_ways (test r) (sym s) yes), first.2))

-- ---- downward

-- the least row comes last
one_more : (test : List ℕ × List ℕ → Bool) (r : List ℕ × List ℕ) (rs : List (List ℕ × List ℕ))
    → find test (reverse (r ∷ rs)) ≡ option_or (find test (reverse rs)) (cond (test r) (Some r) None)
one_more test r rs = ap (find test) (reverse-append (r ∷ []) rs) ∙ find-append test (reverse rs) (r ∷ [])

none_down : (test : List ℕ × List ℕ → Bool) (rows : List (List ℕ × List ℕ)) → find test (reverse rows) ≡ None → NonePasses test rows
none_down test [] none = tt
none_down test (r ∷ rs) none = by (find test (reverse rs)) refl (test r) refl (sym (one_more test r rs) ∙ none)
    (none_down test rs)
  where
    by : (o : Option (List ℕ × List ℕ)) → o ≡ find test (reverse rs) → (b : Bool) → b ≡ test r → option_or o (cond b (Some r) None) ≡ None
        → (find test (reverse rs) ≡ None → NonePasses test rs) → NonePasses test (r ∷ rs)
    by None s true t h later = absurd (cc)
    by None s false t h later = (sym t, later (sym s))
    by (Some x) s b t h later = absurd (cc)

passed : (test : List ℕ × List ℕ → Bool) (word : List ℕ) (rows : List (List ℕ × List ℕ)) → NonePasses test rows
    → AllByRecursion (λ r. test r ≡ true → is_le (word_cmp r.0 word) ≡ true) rows
passed test word [] none = tt
passed test word (r ∷ rs) none = (λ yes. absurd (both_ways (test r) none.0 yes), passed test word rs none.1)

first_down : (test : List ℕ × List ℕ → Bool) (rows : List (List ℕ × List ℕ)) (row : List ℕ × List ℕ) → IsStrictlySortedBy word_cmp (keys_of rows)
    → find test (reverse rows) ≡ Some row → IsFirst false test rows row
first_down test [] row sorted found = absurd (cc)
first_down test (r ∷ rs) row sorted found =
    by (find test (reverse rs)) refl (test r) refl (sym (one_more test r rs) ∙ found)
    (first_down test rs row (sorted_tail word_cmp r.0 (keys_of rs) sorted))
  where
    by : (o : Option (List ℕ × List ℕ)) → o ≡ find test (reverse rs) → (b : Bool) → b ≡ test r → option_or o (cond b (Some r) None) ≡ Some row
        → (find test (reverse rs) ≡ Some row → IsFirst false test rs row) → IsFirst false test (r ∷ rs) row
    by None s true t h later =
        let same : r ≡ row = cc in
        subst (IsFirst false test (r ∷ rs)) same
        (value_here r rs, sym t, (λ _. ap is_le (tied_itself nat_list_cmp_total r.0), passed test r.0 rs (none_down test rs (sym s))))
    by None s false t h later = absurd (cc)
    by (Some x) s b t h later =
        let first = later (sym s ∙ h) in
        let more = later_row r rs row.0 row.1 sorted first.0 in
        (more.1, first.1, (λ _. ap is_le more.0, first.2))

-- ---- in the direction

first_in : (up : Bool) (test : List ℕ × List ℕ → Bool) (rows : List (List ℕ × List ℕ)) (row : List ℕ × List ℕ) → IsStrictlySortedBy word_cmp (keys_of rows)
    → find test (in_direction up rows) ≡ Some row → IsFirst up test rows row
first_in true test rows row sorted found = first_up test rows row sorted found
first_in false test rows row sorted found = first_down test rows row sorted found

none_in : (up : Bool) (test : List ℕ × List ℕ → Bool) (rows : List (List ℕ × List ℕ)) → find test (in_direction up rows) ≡ None → NonePasses test rows
none_in true test rows none = none_up test rows none
none_in false test rows none = none_down test rows none

shown_from : (b : Bool) (entries list : List ℕ) → cond b (some_list entries) None ≡ Some list → (some_list entries ≡ Some list) × (b ≡ true) × (entries ≡ list)
shown_from true [] list h = absurd (cc)
shown_from true (x ∷ xs) list h = let same : x ∷ xs ≡ list = cc in (h, refl, same)
shown_from false entries list h = absurd (cc)

-- what a document of the universe has is a list
had_list : (universe entries : List ℕ) → is_in universe entries ≡ true → some_list entries ≡ Some entries
had_list universe [] had = absurd (both_ways (is_in universe []) (in_none universe) had)
had_list universe (x ∷ xs) had = refl

pub next_is : (up behind : Bool) (path : ℕ) (start universe : List ℕ) (view : PostingsView) (rows : List (List ℕ × List ℕ)) (found : Option (Bor (List ℕ)))
    → AreRowsOn up behind start view rows → IsStrictlySortedBy word_cmp (keys_of rows)
    → option_copied found ≡ option_map (λ row. row.0) (find (stops_at up path universe) (in_direction up rows))
    → IfSome found (λ word. IsNext up behind path start universe view word.now)
next_is up behind path start universe view rows None are sorted is = tt
next_is up behind path start universe view rows (Some word) are sorted is = by (find (stops_at up path universe) (in_direction up rows)) refl is
  where
    at : (row : List ℕ × List ℕ) → IsFirst up (stops_at up path universe) rows row → IsNext up behind path start universe view row.0
    at row first =
        let shown = shown_from (is_from up behind start row.0) (list_at row.0 view) row.1 (sym (are row.0) ∙ first.0) in
        record {
          list = row.1;
          here = shown.0;
          from = shown.1;
          stops = ap (λ entries. is_in universe entries || not (is_end_of up path row.0)) shown.2 ∙ first.1;
          next = λ other from had. at_row (λ r. stops_at up path universe r ≡ true → is_le (word_order up row.0 r.0) ≡ true) other (list_at other view) rows first.2
              (are other ∙ ap (λ b. cond b (some_list (list_at other view)) None) from ∙ had_list universe (list_at other view) had)
              (or_left (is_in universe (list_at other view)) (not (is_end_of up path other)) had);
        }

    by : (o : Option (List ℕ × List ℕ)) → o ≡ find (stops_at up path universe) (in_direction up rows) → Some word.now ≡ option_map (λ row. row.0) o
        → IsNext up behind path start universe view word.now
    by None s h = absurd (cc)
    by (Some row) s h =
        let same : row.0 ≡ word.now = cc in
        subst (IsNext up behind path start universe view) same (at row (first_in up (stops_at up path universe) rows row sorted (sym s)))

pub none_is : (up behind : Bool) (path : ℕ) (start universe : List ℕ) (view : PostingsView) (rows : List (List ℕ × List ℕ)) (found : Option (Bor (List ℕ)))
    → AreRowsOn up behind start view rows
    → option_copied found ≡ option_map (λ row. row.0) (find (stops_at up path universe) (in_direction up rows))
    → IfNone found (HasNoneFrom up behind start universe view)
none_is up behind path start universe view rows (Some word) are is = tt
none_is up behind path start universe view rows None are is = by (find (stops_at up path universe) (in_direction up rows)) refl is
  where
    not_had : NonePasses (stops_at up path universe) rows → (word : List ℕ) → is_from up behind start word ≡ true → (entries : List ℕ) → entries ≡ list_at word view
        → is_in universe entries ≡ false
    not_had none word from [] s = in_none universe
    not_had none word from (x ∷ xs) s =
        (or_parts (is_in universe (x ∷ xs)) (not (is_end_of up path word))
        (at_row (λ r. stops_at up path universe r ≡ false) word (x ∷ xs) rows none
        (are word ∙ ap (λ b. cond b (some_list (list_at word view)) None) from ∙ ap some_list (sym s)))).0

    by : (o : Option (List ℕ × List ℕ)) → o ≡ find (stops_at up path universe) (in_direction up rows) → None ≡ option_map (λ row. row.0) o
        → HasNoneFrom up behind start universe view
    by None s h = λ word from. not_had (none_in up (stops_at up path universe) rows (sym s)) word from (list_at word view) refl
    by (Some row) s h = absurd (cc)
