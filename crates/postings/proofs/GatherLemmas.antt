-- Rows in which a word may stand several times.
use Rattle.std.proofs.Common.{◌≡◌, ℕ, ◌<◌, Bool, true, false, ◌&&◌, ◌||◌, cond, List, [], ◌∷◌, ◌++◌, length, get_or, slice_set, None, Some, refl, sym, ap, ap₂, ◌∙◌, zero, suc, arith}
use Rattle.std.specs.List.Sorted.{IsStrictlySortedBy}
use Rattle.std.specs.Map.{keys_of}
use Rattle.std.specs.BTreeMap.{is_at}
use Rattle.std.specs.Ordering.{is_eq}
use Rattle.std.specs.Str.{bytes_eq}
use Rattle.std.proofs.lemmas.Bool.{cond-true, cond-false}
use Rattle.std.proofs.lemmas.Map.Keys.{sorted_head, sorted_tail}
use Rattle.sorted_pages.specs.Entries.{has}
use Rattle.postings.specs.declared.change.Side.{Side}
use Rattle.postings.specs.declared.change.WordChange.{WordChange}
use Rattle.postings.specs.Dictionary.{word_cmp, value_at}
use Rattle.postings.specs.Changes.{side_of, side_at, names, named, gathered}
use Rattle.postings.proofs.RowLemmas.{absent_behind}
use Rattle.postings.proofs.WordLemmas.{same_word, turned, bytes_itself, bytes_apart}

-- one row more, at the end
pub gathered_push : (s : Side) (w : List ℕ) (e : ℕ) (rows : List (List ℕ × WordChange)) (row : List ℕ × WordChange)
    → gathered s w e (rows ++ row ∷ []) ≡ (names s w e row || gathered s w e rows)
gathered_push s w e [] row = refl
gathered_push s w e (r ∷ rs) row = ap (λ b. names s w e r || b) (gathered_push s w e rs row) ∙ turn (names s w e r) (names s w e row) (gathered s w e rs)
  where
    turn : (a b c : Bool) → (a || (b || c)) ≡ (b || (a || c))
    turn true true c = refl
    turn true false c = refl
    turn false b c = refl

-- one row has more
pub gathered_set : (s : Side) (w : List ℕ) (e : ℕ) (rows : List (List ℕ × WordChange)) (at : ℕ) (row : List ℕ × WordChange) (new : WordChange) (more : Bool)
    → at < length rows → get_or rows at row ≡ row → has (side_of s new) e ≡ (more || has (side_of s row.1) e)
    → gathered s w e (slice_set rows at (row.0, new)) ≡ ((bytes_eq row.0 w && more) || gathered s w e rows)
gathered_set s w e [] at row new more inside is h = absurd (omega arith)
gathered_set s w e (r ∷ rs) zero row new more inside is h =
    ap (λ b. (bytes_eq row.0 w && b) || gathered s w e rs) h
    ∙ by (bytes_eq row.0 w) more (has (side_of s row.1) e) (gathered s w e rs)
    ∙ ap (λ x. (bytes_eq row.0 w && more) || (names s w e x || gathered s w e rs)) (sym is)
  where
    by : (k a b c : Bool) → ((k && (a || b)) || c) ≡ ((k && a) || ((k && b) || c))
    by true true b c = refl
    by true false b c = refl
    by false a b c = refl
gathered_set s w e (r ∷ rs) (suc at) row new more inside is h =
    ap (λ b. names s w e r || b) (gathered_set s w e rs at row new more (omega arith) is h)
    ∙ turn (names s w e r) (bytes_eq row.0 w && more) (gathered s w e rs)
  where
    turn : (a b c : Bool) → (a || (b || c)) ≡ (b || (a || c))
    turn true true c = refl
    turn true false c = refl
    turn false b c = refl

-- no row names an entry of a word that has none
gathered_none : (s : Side) (w : List ℕ) (e : ℕ) (rows : List (List ℕ × WordChange)) → value_at w rows ≡ None → gathered s w e rows ≡ false
gathered_none s w e [] h = refl
gathered_none s w e (r ∷ rs) h = by (is_at (word_cmp w) r.0) refl h (gathered_none s w e rs)
  where
    by : (b : Bool) → b ≡ is_at (word_cmp w) r.0 → cond b (Some r.1) (value_at w rs) ≡ None → (value_at w rs ≡ None → gathered s w e rs ≡ false) → gathered s w e (r ∷ rs) ≡ false
    by true same none rest = absurd (cc)
    by false apart none rest = ap (λ b. (b && has (side_of s r.1) e) || gathered s w e rs) (bytes_apart r.0 w (turned r.0 w ∙ sym apart)) ∙ rest none

-- where each word stands once, what is gathered is what is named
pub gathered_once : (s : Side) (w : List ℕ) (e : ℕ) (rows : List (List ℕ × WordChange)) → IsStrictlySortedBy word_cmp (keys_of rows) → gathered s w e rows ≡ named s w e rows
gathered_once s w e [] h = refl
gathered_once s w e (r ∷ rs) h = by (is_at (word_cmp w) r.0) refl (gathered_once s w e rs (sorted_tail word_cmp r.0 (keys_of rs) h))
  where
    or_false : (b : Bool) → (b || false) ≡ b
    or_false true = refl
    or_false false = refl

    by : (b : Bool) → b ≡ is_at (word_cmp w) r.0 → gathered s w e rs ≡ named s w e rs → gathered s w e (r ∷ rs) ≡ has (side_at s (cond b (Some r.1) (value_at w rs))) e
    by true same rest =
        let none : gathered s w e rs ≡ false = gathered_none s w e rs
        (ap (λ v. value_at v rs) (same_word w r.0 (sym same)) ∙ absent_behind r.0 rs (sorted_head word_cmp r.0 (keys_of rs) h)) in
        let here = ap (λ v. bytes_eq r.0 v) (same_word w r.0 (sym same)) ∙ bytes_itself r.0 in
        ap₂ (λ b o. (b && has (side_of s r.1) e) || o) here none ∙ or_false (has (side_of s r.1) e)
    by false apart rest = ap₂ (λ b o. (b && has (side_of s r.1) e) || o) (bytes_apart r.0 w (turned r.0 w ∙ sym apart)) rest
