-- Entries in order.
use Rattle.std.proofs.Common.{◌≡◌, ℕ, ◌<◌, ◌≤◌, Bool, true, false, ◌||◌, ◌==◌, cond, List, [], ◌∷◌, ◌++◌, length, get_or, refl, sym, ap, ◌∙◌, zero, suc, arith}
use Rattle.std.specs.List.{list_any, dedup, dedup_from, filter}
use Rattle.std.specs.List.Sorted.{IsStrictlySortedBy, IsPermutation, IsSorted}
use Rattle.std.specs.Ordering.{nat_cmp}
use Rattle.std.proofs.Math.Dec.{eqb}
use Rattle.std.proofs.lemmas.Bool.{cond-true, cond-false, eqb-true, eq-eqb}
use Rattle.std.proofs.lemmas.List.Sorted.{list_any-IsPermutation}
use Rattle.std.proofs.lemmas.Map.Keys.{IsStrictlyIncreasing-dedup, sorted_from_strictly_increasing, below_from_sorted, sorted_tail}
use Rattle.sorted_pages.specs.Entries.{has, AreAbove, IsIncreasing}

above_from : (x : ℕ) (xs : List ℕ) → ((j : ℕ) → j < length xs → x < get_or xs j 0) → AreAbove x xs
above_from x [] h = tt
above_from x (y ∷ ys) h = (h 0 (omega arith), above_from x ys (λ j inside. h (suc j) (omega arith)))

increasing_of : (xs : List ℕ) → IsStrictlySortedBy nat_cmp xs → IsIncreasing xs
increasing_of [] h = tt
increasing_of (x ∷ xs) h =
    (above_from x xs (λ j inside. below_from_sorted (x ∷ xs) 0 (suc j) 0 h (omega arith) (omega arith)), increasing_of xs (sorted_tail nat_cmp x xs h))

pub increasing_dedup : (xs : List ℕ) → IsSorted nat_cmp xs → IsIncreasing (dedup eqb xs)
increasing_dedup xs h = increasing_of (dedup eqb xs) (sorted_from_strictly_increasing (dedup eqb xs) (IsStrictlyIncreasing-dedup xs h))

has_any : (q : ℕ) (xs : List ℕ) → has xs q ≡ list_any (λ x. x == q) xs
has_any q [] = refl
has_any q (x ∷ xs) = ap (λ b. x == q || b) (has_any q xs)

pub has_moved : (xs ys : List ℕ) (q : ℕ) → IsPermutation xs ys → has ys q ≡ has xs q
has_moved xs ys q h = has_any q ys ∙ sym (list_any-IsPermutation (λ x. x == q) xs ys h) ∙ sym (has_any q xs)

has_from : (k : ℕ) (xs : List ℕ) (q : ℕ) → has (dedup_from eqb k xs) q ≡ (k == q || has xs q)
has_from k [] q = refl
has_from k (x ∷ xs) q = by (eqb x k) refl (has_from k xs q) (has_from x xs q)
  where
    twice : (a b : Bool) → (a || b) ≡ (a || (a || b))
    twice true b = refl
    twice false b = refl

    by : (b : Bool) → b ≡ eqb x k → has (dedup_from eqb k xs) q ≡ (k == q || has xs q) → has (dedup_from eqb x xs) q ≡ (x == q || has xs q)
        → has (cond (eqb x k) (dedup_from eqb k xs) (k ∷ dedup_from eqb x xs)) q ≡ (k == q || (x == q || has xs q))
    by true s before next = ap (λ v. has v q) (cond-true _ _ _ (sym s)) ∙ before ∙ twice (k == q) (has xs q)
        ∙ ap (λ n. k == q || (n == q || has xs q)) (sym (eqb-true x k (sym s)))
    by false s before next = ap (λ v. has v q) (cond-false _ _ _ (sym s)) ∙ ap (λ b. k == q || b) next

pub has_dedup : (xs : List ℕ) (q : ℕ) → has (dedup eqb xs) q ≡ has xs q
has_dedup [] q = refl
has_dedup (x ∷ xs) q = has_from x xs q

pub has_append : (xs ys : List ℕ) (q : ℕ) → has (xs ++ ys) q ≡ (has ys q || has xs q)
has_append [] ys q = by (has ys q)
  where
    by : (b : Bool) → b ≡ (b || false)
    by true = refl
    by false = refl
has_append (x ∷ xs) ys q = ap (λ b. x == q || b) (has_append xs ys q) ∙ turn (x == q) (has ys q) (has xs q)
  where
    turn : (a b c : Bool) → (a || (b || c)) ≡ (b || (a || c))
    turn true true c = refl
    turn true false c = refl
    turn false b c = refl

pub has_push : (xs : List ℕ) (x q : ℕ) → has (xs ++ x ∷ []) q ≡ (x == q || has xs q)
has_push xs x q = has_append xs (x ∷ []) q ∙ by (x == q) (has xs q)
  where
    by : (a b : Bool) → ((a || false) || b) ≡ (a || b)
    by true b = refl
    by false b = refl

above_filter : (p : ℕ → Bool) (x : ℕ) (xs : List ℕ) → AreAbove x xs → AreAbove x (filter p xs)
above_filter p x [] h = tt
above_filter p x (y ∷ ys) h = pick (p y) (above_filter p x ys h.1)
  where
    pick : (b : Bool) → AreAbove x (filter p ys) → AreAbove x (cond b (y ∷ filter p ys) (filter p ys))
    pick true rest = (h.0, rest)
    pick false rest = rest

pub increasing_filter : (p : ℕ → Bool) (xs : List ℕ) → IsIncreasing xs → IsIncreasing (filter p xs)
increasing_filter p [] h = tt
increasing_filter p (x ∷ xs) h = pick (p x) (increasing_filter p xs h.1)
  where
    pick : (b : Bool) → IsIncreasing (filter p xs) → IsIncreasing (cond b (x ∷ filter p xs) (filter p xs))
    pick true rest = (above_filter p x xs h.0, rest)
    pick false rest = rest

-- an entry that stands at some place is there, and one that stands at none is not
pub has_at : (xs : List ℕ) (q k : ℕ) → k < length xs → get_or xs k 0 ≡ q → has xs q ≡ true
has_at [] q k inside is = absurd (omega arith)
has_at (x ∷ xs) q zero inside is = ap (λ b. b || has xs q) (eq-eqb x q is)
has_at (x ∷ xs) q (suc k) inside is = ap (λ b. x == q || b) (has_at xs q k (omega arith) is) ∙ or_true (x == q)
  where
    or_true : (b : Bool) → (b || true) ≡ true
    or_true true = refl
    or_true false = refl

pub has_none : (xs : List ℕ) (q : ℕ) → ((k : ℕ) → k < length xs → get_or xs k 0 ≡ q → ⊥) → has xs q ≡ false
has_none [] q h = refl
has_none (x ∷ xs) q h = ap (λ b. b || has xs q) (differs (x == q) (λ same. h 0 (omega arith) (eqb-true x q same)))
    ∙ has_none xs q (λ k inside is. h (suc k) (omega arith) is)
  where
    differs : (b : Bool) → (b ≡ true → ⊥) → b ≡ false
    differs true f = absurd (f refl)
    differs false f = refl

-- each entry is at least those before it
above_at : (x : ℕ) (xs : List ℕ) (j : ℕ) → AreAbove x xs → j < length xs → x < get_or xs j 0
above_at x [] j h inside = absurd (omega arith)
above_at x (y ∷ ys) zero h inside = h.0
above_at x (y ∷ ys) (suc j) h inside = above_at x ys j h.1 (omega arith)

pub rising : (xs : List ℕ) → IsIncreasing xs → (i j : ℕ) → i ≤ j → j < length xs → get_or xs i 0 ≤ get_or xs j 0
rising [] h i j low inside = absurd (omega arith)
rising (x ∷ xs) h zero zero low inside = omega arith
rising (x ∷ xs) h zero (suc j) low inside = let above = above_at x xs j h.0 (omega arith) in omega arith
rising (x ∷ xs) h (suc i) zero low inside = absurd (omega arith)
rising (x ∷ xs) h (suc i) (suc j) low inside = rising xs h.1 i j (omega arith) (omega arith)
