-- Keys in a row, and their lists.
use Rattle.std.proofs.Common.{◌≡◌, ℕ, Bool, true, false, ◌&&◌, ◌||◌, cond, List, [], ◌∷◌, None, Some, refl, sym, ap, ap₂, ◌∙◌}
use Rattle.std.specs.declared.cmp.Ordering.{Ordering}
use Rattle.std.specs.declared.cmp.Ordering.TheVariants.{Less, Equal, Greater}
use Rattle.std.specs.Ordering.{is_eq, is_le, ordering_reverse}
use Rattle.std.specs.Cmp.Lexicographic.{nat_list_cmp_total}
use Rattle.std.specs.List.{filter, AllByRecursion}
use Rattle.std.specs.List.Sorted.{IsStrictlySortedBy}
use Rattle.std.specs.Map.{keys_of}
use Rattle.std.proofs.lemmas.Bool.{cond-true, cond-false}
use Rattle.std.proofs.lemmas.Cmp.{eq_by_cmp_equiv}
use Rattle.std.proofs.lemmas.Map.Keys.{sorted_head, sorted_tail}
use Rattle.std.proofs.lemmas.Map.Lookups.{exact_bytes}
use Rattle.doc_sets.specs.Sets.{has}
use Rattle.postings.specs.Dictionary.{PostingsView, word_cmp, value_at, list_at, some_list}
use Rattle.facet_index.specs.Places.{has_document}
use Rattle.facet_index.specs.Ranges.{is_listed, PassesInside}
use Rattle.facet_index.proofs.TestLemmas.{same_bool, both}

-- a key after the last, and those after it, are not looked at
none_listed : (last key : List ℕ) (d : ℕ) (rows : List (List ℕ × List ℕ)) → word_cmp last key ≡ Less → AllByRecursion (λ y. word_cmp key y ≡ Less) (keys_of rows)
    → is_listed last d rows ≡ false
none_listed last key d [] past above = refl
none_listed last key d (r ∷ rs) past above =
    ap₂ (λ a b. (is_le a && has_document d r.1) || b)
    (nat_list_cmp_total.antisymm r.0 last ∙ ap ordering_reverse (nat_list_cmp_total.trans last key r.0 past above.0))
    (none_listed last key d rs past above.1)

pub past_last : (last key list : List ℕ) (d : ℕ) (rows : List (List ℕ × List ℕ)) → word_cmp last key ≡ Less
    → IsStrictlySortedBy word_cmp (keys_of ((key, list) ∷ rows)) → is_listed last d ((key, list) ∷ rows) ≡ false
past_last last key list d rows past sorted =
    ap₂ (λ a b. (is_le a && has_document d list) || b)
    (nat_list_cmp_total.antisymm key last ∙ ap ordering_reverse past)
    (none_listed last key d rows past (sorted_head word_cmp key (keys_of rows) sorted))

-- a key up to the last
pub one_listed : (last key list : List ℕ) (d : ℕ) (rows : List (List ℕ × List ℕ)) → is_le (word_cmp key last) ≡ true
    → is_listed last d ((key, list) ∷ rows) ≡ (has_document d list || is_listed last d rows)
one_listed last key list d rows le = ap (λ b. (b && has_document d list) || is_listed last d rows) le

pub not_past : (last key : List ℕ) → (word_cmp last key ≡ Less → ⊥) → is_le (word_cmp key last) ≡ true
not_past last key h = ap is_le (nat_list_cmp_total.antisymm key last) ∙ sym (by (word_cmp last key) refl)
  where
    by : (o : Ordering) → o ≡ word_cmp last key → true ≡ is_le (ordering_reverse o)
    by Less s = absurd (h (sym s))
    by Equal s = refl
    by Greater s = refl

-- one key less
pub step : (x h u f : Bool) → ((x && u) || ((h && u) || f)) ≡ (((h || x) && u) || f)
step true true true f = refl
step true true false f = refl
step true false true f = refl
step true false false f = refl
step false true true f = refl
step false true false f = refl
step false false u f = refl

pub later_sorted : (key list : List ℕ) (rows : List (List ℕ × List ℕ)) → IsStrictlySortedBy word_cmp (keys_of ((key, list) ∷ rows)) → IsStrictlySortedBy word_cmp (keys_of rows)
later_sorted key list rows sorted = sorted_tail word_cmp key (keys_of rows) sorted

-- ---- which documents are listed

pub value_here : (r : List ℕ × List ℕ) (rows : List (List ℕ × List ℕ)) → value_at r.0 (r ∷ rows) ≡ Some r.1
value_here r rows = cond-true _ _ _ ((eq_by_cmp_equiv nat_list_cmp_total).refl r.0)

pub value_later : (w key : List ℕ) (list : List ℕ) (rows : List (List ℕ × List ℕ)) → word_cmp key w ≡ Less → value_at w ((key, list) ∷ rows) ≡ value_at w rows
value_later w key list rows less = cond-false _ _ _ (ap is_eq (nat_list_cmp_total.antisymm w key ∙ ap ordering_reverse less))

-- a row that lists the document, and the rows that it stands among
pub from_listed : (last : List ℕ) (d : ℕ) (rows : List (List ℕ × List ℕ)) → IsStrictlySortedBy word_cmp (keys_of rows) → is_listed last d rows ≡ true
    → (key : List ℕ) × ((list : List ℕ) × ((is_le (word_cmp key last) ≡ true) × (has_document d list ≡ true) × (value_at key rows ≡ Some list)
    × ((low : List ℕ) → AllByRecursion (λ y. word_cmp low y ≡ Less) (keys_of rows) → word_cmp low key ≡ Less)))
from_listed last d [] sorted h = absurd (cc)
from_listed last d (r ∷ rs) sorted h =
    by (is_le (word_cmp r.0 last)) (has_document d r.1) refl refl h (from_listed last d rs (sorted_tail word_cmp r.0 (keys_of rs) sorted))
  where
    Row : List (List ℕ × List ℕ) → Type 0
    Row rows = (key : List ℕ) × ((list : List ℕ) × ((is_le (word_cmp key last) ≡ true) × (has_document d list ≡ true) × (value_at key rows ≡ Some list)
        × ((low : List ℕ) → AllByRecursion (λ y. word_cmp low y ≡ Less) (keys_of rows) → word_cmp low key ≡ Less)))

    later : Row rs → Row (r ∷ rs)
    later row = (
      row.0,
      (
        row.1.0,
        (
          row.1.1.0,
          row.1.1.1,
          value_later row.0 r.0 r.1 rs (row.1.1.3 r.0 (sorted_head word_cmp r.0 (keys_of rs) sorted)) ∙ row.1.1.2,
          λ low all. row.1.1.3 low all.1,
        ),
      ),
    )

    by : (le has : Bool) → le ≡ is_le (word_cmp r.0 last) → has ≡ has_document d r.1 → ((le && has) || is_listed last d rs) ≡ true
        → (is_listed last d rs ≡ true → Row rs) → Row (r ∷ rs)
    by true true s t h rest = (r.0, (r.1, (sym s, sym t, value_here r rs, λ low all. all.0)))
    by true false s t h rest = later (rest h)
    by false has s t h rest = later (rest h)

same_list : (a b : List ℕ) → Some a ≡ Some b → a ≡ b
same_list a b h = cc

-- the key of a value
pub to_listed : (last key list : List ℕ) (d : ℕ) (rows : List (List ℕ × List ℕ)) → value_at key rows ≡ Some list → is_le (word_cmp key last) ≡ true
    → has_document d list ≡ true → is_listed last d rows ≡ true
to_listed last key list d [] h le has = absurd (cc)
to_listed last key list d (r ∷ rs) h le has = by (is_eq (word_cmp key r.0)) refl h (λ k. to_listed last key list d rs k le has)
  where
    equal : (o : Ordering) → is_eq o ≡ true → o ≡ Equal
    equal Less e = absurd (cc)
    equal Equal e = refl
    equal Greater e = absurd (cc)

    or_true : (b : Bool) → (b || true) ≡ true
    or_true true = refl
    or_true false = refl

    by : (same : Bool) → same ≡ is_eq (word_cmp key r.0) → cond same (Some r.1) (value_at key rs) ≡ Some list
        → (value_at key rs ≡ Some list → is_listed last d rs ≡ true) → ((is_le (word_cmp r.0 last) && has_document d r.1) || is_listed last d rs) ≡ true
    by true s h rest =
        let one : key ≡ r.0 = exact_bytes key r.0 (equal (word_cmp key r.0) (sym s)) in
        ap₂ (λ a b. (a && b) || is_listed last d rs) (ap (λ k. is_le (word_cmp k last)) (sym one) ∙ le)
        (ap (has_document d) (same_list r.1 list h) ∙ has)
    by false s h rest = ap (λ b. (is_le (word_cmp r.0 last) && has_document d r.1) || b) (rest h) ∙ or_true (is_le (word_cmp r.0 last) && has_document d r.1)

-- the rows from a key on, of posting lists
abbrev pub AreRowsFrom : List ℕ → PostingsView → List (List ℕ × List ℕ) → Type 0
AreRowsFrom first view rows = (key : List ℕ) → value_at key rows ≡ cond (is_le (word_cmp first key)) (some_list (list_at key view)) None

pub shown_list : (b : Bool) (entries list : List ℕ) → cond b (some_list entries) None ≡ Some list → (b ≡ true) × (entries ≡ list)
shown_list true [] list h = absurd (cc)
shown_list true (x ∷ xs) list h = (refl, same_list (x ∷ xs) list h)
shown_list false entries list h = absurd (cc)

pub some_document : (d : ℕ) (entries : List ℕ) → has_document d entries ≡ true → some_list entries ≡ Some entries
some_document d [] h = absurd (cc)
some_document d (x ∷ xs) h = refl

pub listed_passes : (first last : List ℕ) (view : PostingsView) (rows : List (List ℕ × List ℕ)) (passes : ℕ → Bool) → IsStrictlySortedBy word_cmp (keys_of rows)
    → AreRowsFrom first view rows → PassesInside first last view passes → (d : ℕ) → is_listed last d rows ≡ passes d
listed_passes first last view rows passes sorted are inside d = same_bool (is_listed last d rows) (passes d)
    (λ h.
    let row = from_listed last d rows sorted h in
    let shown = shown_list (is_le (word_cmp first row.0)) (list_at row.0 view) row.1.0 (sym (are row.0) ∙ row.1.1.2) in
    inside.found d row.0 (ap₂ (λ a b. a && b) shown.0 row.1.1.0) (ap (has_document d) shown.1 ∙ row.1.1.1))
    (λ h.
    let key = inside.only d h in
    let ends = both (is_le (word_cmp first key.0)) (is_le (word_cmp key.0 last)) key.1 in
    to_listed last key.0 (list_at key.0 view) d rows
    (are key.0 ∙ ap (λ b. cond b (some_list (list_at key.0 view)) None) ends.0 ∙ some_document d (list_at key.0 view) key.2) ends.1 key.2)

-- the set of the documents that were added, by what passes
pub between_answer : (first last : List ℕ) (view : PostingsView) (rows : List (List ℕ × List ℕ)) (universe start found docs : List ℕ)
    → IsStrictlySortedBy word_cmp (keys_of rows) → AreRowsFrom first view rows → start ≡ []
    → ((d : ℕ) → has found d ≡ ((is_listed last d rows && has universe d) || has start d))
    → ((passes : ℕ → Bool) → ((d : ℕ) → has found d ≡ (passes d && has universe d)) → docs ≡ filter passes universe)
    → (passes : ℕ → Bool) → PassesInside first last view passes → docs ≡ filter passes universe
between_answer first last view rows universe start found docs sorted are none told h = λ passes inside.
    h passes (λ d. told d ∙ ap (λ xs. (is_listed last d rows && has universe d) || has xs d) none ∙ or_false (is_listed last d rows && has universe d)
    ∙ ap (λ b. b && has universe d) (listed_passes first last view rows passes sorted are inside d))
  where
    or_false : (b : Bool) → (b || false) ≡ b
    or_false true = refl
    or_false false = refl
