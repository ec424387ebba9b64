-- Changes of words, one row behind the other.
use Rattle.std.proofs.Common.{◌≡◌, ℕ, ◌<◌, ◌+◌, Bool, true, false, not, ◌&&◌, ◌||◌, ◌==◌, cond, List, [], ◌∷◌, ◌++◌, length, get_or, take, Option, None, Some, Result, Ok, Err, OnOk, refl, sym, ap, ap₂, subst, ◌∙◌, zero, suc, arith}
use Rattle.std.specs.declared.cmp.Ordering.TheVariants.{Less}
use Rattle.std.specs.List.{AllByRecursion}
use Rattle.std.specs.List.Sorted.{IsStrictlySortedBy}
use Rattle.std.specs.Ordering.{is_eq}
use Rattle.std.specs.Str.{bytes_eq}
use Rattle.std.specs.Map.{keys_of}
use Rattle.std.specs.BTreeMap.{is_at}
use Rattle.std.proofs.lemmas.Bool.{cond-true, cond-false}
use Rattle.std.proofs.lemmas.List.{get_or-map}
use Rattle.std.proofs.lemmas.Map.Entries.{length-keys_of}
use Rattle.std.proofs.lemmas.Map.Keys.{Less-from_sorted, sorted_head, sorted_tail}
use Rattle.sorted_pages.specs.Entries.{has}
use Rattle.postings.specs.declared.change.Side.{Side}
use Rattle.postings.specs.declared.change.Side.TheVariants.{Goes, Comes}
use Rattle.postings.specs.declared.change.WordChange.{WordChange}
use Rattle.postings.specs.Dictionary.{Lists, word_cmp, value_at, entries_of, pages_at}
use Rattle.postings.specs.Changes.{ChangeView, is_side, side_of, side_at, named, names, gathered, IsRowOf, IsChangeOf}
use Rattle.postings.specs.Documents.{Document, stands_in, AreNarrow}
use Rattle.postings.proofs.WordLemmas.{Written, same_word, by_word, itself, turned, bytes_itself, bytes_apart, written_here, written_other}

-- the words of two rows are two
pub rows_apart : {X : Type 0} (rows : List (List ℕ × X)) (i j : ℕ) (d e : List ℕ × X) → IsStrictlySortedBy word_cmp (keys_of rows) → i < j → j < length rows
    → is_eq (word_cmp (get_or rows i d).0 (get_or rows j e).0) ≡ false
rows_apart rows i j d e sorted below inside =
    let less = Less-from_sorted word_cmp (keys_of rows) i j d.0 sorted below (subst (λ n. j < n) (sym (length-keys_of rows)) inside) in
    let first = get_or-map (λ r. r.0) rows i d d.0 (omega arith) in
    let second = get_or-map (λ r. r.0) rows j e d.0 inside in
    ap is_eq (ap₂ word_cmp (sym first) (sym second) ∙ less)

-- no row before has the word
pub absent_before : {X : Type 0} (rows : List (List ℕ × X)) (i : ℕ) (d : List ℕ × X) → IsStrictlySortedBy word_cmp (keys_of rows) → i < length rows
    → value_at (get_or rows i d).0 (take i rows) ≡ None
absent_before [] i d sorted inside = absurd (omega arith)
absent_before (r ∷ rs) zero d sorted inside = refl
absent_before (r ∷ rs) (suc i) d sorted inside =
    cond-false _ _ _ (turned (get_or rs i d).0 r.0 ∙ rows_apart (r ∷ rs) 0 (suc i) d d sorted (omega arith) inside)
    ∙ absent_before rs i d (sorted_tail word_cmp r.0 (keys_of rs) sorted) (omega arith)

pub value_push_other : {X : Type 0} (x : List ℕ × X) (rows : List (List ℕ × X)) (w : List ℕ) → is_eq (word_cmp x.0 w) ≡ false → value_at w (rows ++ x ∷ []) ≡ value_at w rows
value_push_other x [] w h = cond-false _ _ _ (turned w x.0 ∙ h)
value_push_other x (r ∷ rs) w h = ap (λ o. cond (is_at (word_cmp w) r.0) (Some r.1) o) (value_push_other x rs w h)

pub value_push_here : {X : Type 0} (x : List ℕ × X) (rows : List (List ℕ × X)) → value_at x.0 rows ≡ None → value_at x.0 (rows ++ x ∷ []) ≡ Some x.1
value_push_here x [] h = cond-true _ _ _ (itself x.0)
value_push_here {X} x (r ∷ rs) h = by (is_at (word_cmp x.0) r.0) h (value_push_here x rs)
  where
    by : (b : Bool) → cond b (Some r.1) (value_at x.0 rs) ≡ None → (value_at x.0 rs ≡ None → value_at x.0 (rs ++ x ∷ []) ≡ Some x.1)
        → cond b (Some r.1) (value_at x.0 (rs ++ x ∷ [])) ≡ Some x.1
    by true e later = absurd (cc)
    by false e later = later e

-- what is read alike of a row's new value and of its old one is read alike at each word
pub read_swapped : {X Y : Type 0} (f : Option X → Y) (done left : List (List ℕ × X)) (word : List ℕ) (old new : X) → f (Some old) ≡ f (Some new)
    → (w : List ℕ) → f (value_at w ((done ++ (word, new) ∷ []) ++ left)) ≡ f (value_at w (done ++ (word, old) ∷ left))
read_swapped {X} {Y} f [] left word old new same w = by (is_at (word_cmp w) word)
  where
    by : (b : Bool) → f (cond b (Some new) (value_at w left)) ≡ f (cond b (Some old) (value_at w left))
    by true = sym same
    by false = refl
read_swapped {X} {Y} f (r ∷ rs) left word old new same w = by (is_at (word_cmp w) r.0) (read_swapped f rs left word old new same w)
  where
    by : (b : Bool) → f (value_at w ((rs ++ (word, new) ∷ []) ++ left)) ≡ f (value_at w (rs ++ (word, old) ∷ left))
        → f (cond b (Some r.1) (value_at w ((rs ++ (word, new) ∷ []) ++ left))) ≡ f (cond b (Some r.1) (value_at w (rs ++ (word, old) ∷ left)))
    by true rest = refl
    by false rest = rest

-- what holds of each value holds with one more
pub value_pushed : {X : Type 0} (P : Option X → Type 0) (rows : List (List ℕ × X)) (x : List ℕ × X) (w : List ℕ) → P (value_at w rows) → P (Some x.1) → P (value_at w (rows ++ x ∷ []))
value_pushed {X} P [] x w none some = by (is_at (word_cmp w) x.0)
  where
    by : (b : Bool) → P (cond b (Some x.1) None)
    by true = some
    by false = none
value_pushed {X} P (r ∷ rs) x w old some = by (is_at (word_cmp w) r.0) old (λ rest. value_pushed P rs x w rest some)
  where
    by : (b : Bool) → P (cond b (Some r.1) (value_at w rs)) → (P (value_at w rs) → P (value_at w (rs ++ x ∷ []))) → P (cond b (Some r.1) (value_at w (rs ++ x ∷ [])))
    by true here later = here
    by false here later = later here

-- the same words are there, in the same order
pub words_moved : {X : Type 0} (done left : List (List ℕ × X)) (word : List ℕ) (old new : X)
    → keys_of ((done ++ (word, new) ∷ []) ++ left) ≡ keys_of (done ++ (word, old) ∷ left)
words_moved [] left word old new = refl
words_moved (r ∷ rs) left word old new = ap (λ v. r.0 ∷ v) (words_moved rs left word old new)

-- a row less leaves the words in order
pub words_dropped : {X : Type 0} (done left : List (List ℕ × X)) (x : List ℕ × X) → IsStrictlySortedBy word_cmp (keys_of (done ++ x ∷ left))
    → IsStrictlySortedBy word_cmp (keys_of (done ++ left))
unfolding IsStrictlySortedBy
words_dropped [] left x h = h.1
words_dropped {X} (r ∷ rs) left x h = (all rs h.0, words_dropped rs left x h.1)
  where
    all : (rows : List (List ℕ × X)) → AllByRecursion (λ y. word_cmp r.0 y ≡ Less) (keys_of (rows ++ x ∷ left))
        → AllByRecursion (λ y. word_cmp r.0 y ≡ Less) (keys_of (rows ++ left))
    all [] a = a.1
    all (q ∷ qs) a = (a.0, all qs a.1)

-- no row behind has the word
pub absent_behind : {X : Type 0} (word : List ℕ) (rows : List (List ℕ × X)) → AllByRecursion (λ y. word_cmp word y ≡ Less) (keys_of rows) → value_at word rows ≡ None
absent_behind word [] h = refl
absent_behind word (r ∷ rs) h = cond-false _ _ _ (ap is_eq h.0) ∙ absent_behind word rs h.1

-- what is read alike of a row's value and of none is read alike at each word where the row is dropped
pub read_dropped : {X Y : Type 0} (f : Option X → Y) (done left : List (List ℕ × X)) (word : List ℕ) (old : X) → IsStrictlySortedBy word_cmp (keys_of (done ++ (word, old) ∷ left))
    → f None ≡ f (Some old) → (w : List ℕ) → f (value_at w (done ++ left)) ≡ f (value_at w (done ++ (word, old) ∷ left))
read_dropped {X} {Y} f [] left word old sorted same w = by (is_at (word_cmp w) word) refl
  where
    by : (b : Bool) → b ≡ is_at (word_cmp w) word → f (value_at w left) ≡ f (cond b (Some old) (value_at w left))
    by true s = ap (λ v. f (value_at v left)) (same_word w word (sym s)) ∙ ap f (absent_behind word left (sorted_head word_cmp word (keys_of left) sorted)) ∙ same
    by false s = refl
read_dropped {X} {Y} f (r ∷ rs) left word old sorted same w =
    by (is_at (word_cmp w) r.0) (read_dropped f rs left word old (sorted_tail word_cmp r.0 (keys_of (rs ++ (word, old) ∷ left)) sorted) same w)
  where
    by : (b : Bool) → f (value_at w (rs ++ left)) ≡ f (value_at w (rs ++ (word, old) ∷ left))
        → f (cond b (Some r.1) (value_at w (rs ++ left))) ≡ f (cond b (Some r.1) (value_at w (rs ++ (word, old) ∷ left)))
    by true rest = refl
    by false rest = rest

abbrev pub across : Side → Side
across Goes = Comes
across Comes = Goes

-- whether the entry is on this side of a word's change and not on the other
abbrev pub is_alone : Side → ℕ → Option WordChange → Bool
is_alone side entry change = has (side_at side change) entry && not (has (side_at (across side) change) entry)

-- what is named on a side is not on the other
abbrev pub IsAlone : Side → ℕ → Option WordChange → Type 0
IsAlone side entry change = has (side_at side change) entry ≡ is_alone side entry change

-- the row has what is alone, and nothing else
row_alone : (old new : WordChange) → IsRowOf old new → (s : Side) (e : ℕ) → has (side_of s new) e ≡ is_alone s e (Some old)
row_alone old new row Goes e = row.gone e
row_alone old new row Comes e = row.come e

still_alone : (old new : WordChange) → IsRowOf old new → (s : Side) (e : ℕ) → is_alone s e (Some old) ≡ is_alone s e (Some new)
still_alone old new row s e = by s
  where
    again : (a b : Bool) → (a && not b) ≡ ((a && not b) && not (b && not a))
    again true true = refl
    again true false = refl
    again false b = refl

    by : (s : Side) → is_alone s e (Some old) ≡ is_alone s e (Some new)
    by Goes = again (has old.gone.items e) (has old.come.items e) ∙ sym (ap₂ (λ a b. a && not b) (row.gone e) (row.come e))
    by Comes = again (has old.come.items e) (has old.gone.items e) ∙ sym (ap₂ (λ a b. a && not b) (row.come e) (row.gone e))

-- one word more is settled
pub settled_named : (done left : List (List ℕ × WordChange)) (word : List ℕ) (old new : WordChange) → IsRowOf old new → (s : Side) (w : List ℕ) (e : ℕ)
    → is_alone s e (value_at w ((done ++ (word, new) ∷ []) ++ left)) ≡ is_alone s e (value_at w (done ++ (word, old) ∷ left))
settled_named done left word old new row s w e = read_swapped (is_alone s e) done left word old new (still_alone old new row s e) w

pub settled_alone : (done : List (List ℕ × WordChange)) (word : List ℕ) (old new : WordChange) → IsRowOf old new → (s : Side) (w : List ℕ) (e : ℕ)
    → IsAlone s e (value_at w done) → IsAlone s e (value_at w (done ++ (word, new) ∷ []))
settled_alone done word old new row s w e before =
    value_pushed (IsAlone s e) done (word, new) w before (row_alone old new row s e ∙ still_alone old new row s e)

-- so is one that has nothing then
pub dropped_named : (done left : List (List ℕ × WordChange)) (word : List ℕ) (old new : WordChange) → IsRowOf old new → length new.gone.items + length new.come.items ≡ 0
    → IsStrictlySortedBy word_cmp (keys_of (done ++ (word, old) ∷ left)) → (s : Side) (w : List ℕ) (e : ℕ)
    → is_alone s e (value_at w (done ++ left)) ≡ is_alone s e (value_at w (done ++ (word, old) ∷ left))
dropped_named done left word old new row empty sorted s w e =
    read_dropped (is_alone s e) done left word old sorted (sym (none_in (side_of s new) (by s)) ∙ row_alone old new row s e) w
  where
    none_in : (xs : List ℕ) → length xs ≡ 0 → has xs e ≡ false
    none_in [] h = refl
    none_in (x ∷ xs) h = absurd (omega arith)

    by : (s : Side) → length (side_of s new) ≡ 0
    by Goes = omega arith
    by Comes = omega arith

-- what two clauses say of success
pub ok_both : {X E P Q R : Type 0} (r : Result X E) → OnOk r P → OnOk r Q → (P → Q → R) → OnOk r R
ok_both (Ok x) p q f = f p q
ok_both (Err e) p q f = tt

-- one document more that goes, or that comes
pub one_more_goes : (old new : ChangeView) (d : Document) → ((s : Side) (word : List ℕ) (entry : ℕ) → gathered s word entry new.words
    ≡ ((is_side Goes s && stands_in word entry d.id d.places) || gathered s word entry old.words)) → (gone come : List Document) → IsChangeOf old gone come → IsChangeOf new (d ∷ gone) come
one_more_goes old new d more gone come was = record {
  goes = λ word entry. more Goes word entry ∙ ap (λ b. stands_in word entry d.id d.places || b) (was.goes word entry);
  comes = λ word entry. more Comes word entry ∙ was.comes word entry;
  narrow = was.narrow;
}

pub one_more_comes : (old new : ChangeView) (d : Document) → ((s : Side) (word : List ℕ) (entry : ℕ) → gathered s word entry new.words
    ≡ ((is_side Comes s && stands_in word entry d.id d.places) || gathered s word entry old.words)) → AreNarrow d.places → (gone come : List Document) → IsChangeOf old gone come → IsChangeOf new gone (d ∷ come)
one_more_comes old new d more narrow gone come was = record {
  goes = λ word entry. more Goes word entry ∙ was.goes word entry;
  comes = λ word entry. more Comes word entry ∙ ap (λ b. stands_in word entry d.id d.places || b) (was.comes word entry);
  narrow = (narrow, was.narrow);
}

-- what is named after the entries of one more row of a word
pub named_more : (row : List ℕ × WordChange) (old : Option WordChange) (new : WordChange) (m n : List (List ℕ × WordChange))
    → value_at row.0 m ≡ old → Written row.0 (Some new) m n
    → ((s : Side) (e : ℕ) → has (side_of s new) e ≡ (has (side_of s row.1) e || has (side_at s old) e))
    → (s : Side) (w : List ℕ) (e : ℕ) → named s w e n ≡ (names s w e row || named s w e m)
named_more row old new m n was written more s w e =
    by_word row.0 (λ w. named s w e n ≡ (names s w e row || named s w e m)) here there w
  where
    here : named s row.0 e n ≡ (names s row.0 e row || named s row.0 e m)
    here = ap (λ o. has (side_at s o) e) (written_here row.0 (Some new) m n written) ∙ more s e
        ∙ ap₂ (λ b o. (b && has (side_of s row.1) e) || has (side_at s o) e) (sym (bytes_itself row.0)) (sym was)

    there : (w : List ℕ) → is_eq (word_cmp row.0 w) ≡ false → named s w e n ≡ (names s w e row || named s w e m)
    there w apart = ap (λ o. has (side_at s o) e) (written_other row.0 (Some new) m n written w apart)
        ∙ ap (λ b. (b && has (side_of s row.1) e) || named s w e m) (sym (bytes_apart row.0 w apart))

-- the lists after the changes of some rows
abbrev pub Told : Lists → List (List ℕ × WordChange) → Lists → List ℕ → ℕ → Type 0
Told first rows now w e = has (entries_of (pages_at w now)) e ≡ ((named Comes w e rows || has (entries_of (pages_at w first)) e) && not (named Goes w e rows))

pub told_none : (first : Lists) (w : List ℕ) (e : ℕ) → Told first [] first w e
told_none first w e = by (has (entries_of (pages_at w first)) e)
  where
    by : (b : Bool) → b ≡ (b && true)
    by true = refl
    by false = refl

pub told_more : (x : List ℕ × WordChange) (rows : List (List ℕ × WordChange)) (first old new : Lists) → value_at x.0 rows ≡ None
    → ((w : List ℕ) (e : ℕ) → Told first rows old w e)
    → ((e : ℕ) → has (entries_of (pages_at x.0 new)) e ≡ ((has x.1.come.items e || has (entries_of (pages_at x.0 old)) e) && not (has x.1.gone.items e)))
    → ((w : List ℕ) → is_eq (word_cmp x.0 w) ≡ false → pages_at w new ≡ pages_at w old)
    → (w : List ℕ) (e : ℕ) → Told first (rows ++ x ∷ []) new w e
told_more x rows first old new absent told changed others w e = by_word x.0 (λ w. Told first (rows ++ x ∷ []) new w e) here there w
  where
    as_it_was : (b : Bool) → (b && true) ≡ b
    as_it_was true = refl
    as_it_was false = refl

    before : has (entries_of (pages_at x.0 old)) e ≡ has (entries_of (pages_at x.0 first)) e
    before = told x.0 e ∙ ap (λ o. (has (side_at Comes o) e || has (entries_of (pages_at x.0 first)) e) && not (has (side_at Goes o) e)) absent
        ∙ as_it_was (has (entries_of (pages_at x.0 first)) e)

    here : Told first (rows ++ x ∷ []) new x.0 e
    here = changed e ∙ ap (λ b. (has x.1.come.items e || b) && not (has x.1.gone.items e)) before
        ∙ ap (λ o. (has (side_at Comes o) e || has (entries_of (pages_at x.0 first)) e) && not (has (side_at Goes o) e)) (sym (value_push_here x rows absent))

    there : (w : List ℕ) → is_eq (word_cmp x.0 w) ≡ false → Told first (rows ++ x ∷ []) new w e
    there w apart = ap (λ o. has (entries_of o) e) (others w apart) ∙ told w e
        ∙ ap (λ o. (has (side_at Comes o) e || has (entries_of (pages_at w first)) e) && not (has (side_at Goes o) e)) (sym (value_push_other x rows w apart))
