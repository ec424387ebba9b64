-- What an edit at a place that a search found does.
use Rattle.std.proofs.Common.{◌≡◌, ℕ, zero, suc, ◌<◌, ◌≤◌, true, false, ◌||◌, cond, eqb, ltb, ◌+◌, inl, inr, List, [], ◌∷◌, ◌++◌, length, get_or, refl, sym, ap, subst, ◌∙◌, arith}
use Rattle.std.proofs.lemmas.Bool.Decides.{nat_tests}
use Rattle.std.proofs.lemmas.Bool.{eq-eqb, ne_eqb, eqb-true, eqb-false, or_left, or_parts, cond_both, cond-true, cond-false, lt-ltb, le-ltb, cases_eq}
use Rattle.std.specs.List.{insert, remove, slice_get}
use Rattle.std.specs.List.Sorted.{IsBinarySearchResult}
use Rattle.std.specs.Ordering.{nat_cmp}
use Rattle.std.specs.Result.{IfErr}
use Rattle.std.proofs.Common.{Result, Ok, Err, Bor}
use Rattle.std.specs.Prelude.{Option, Some, None}
use Rattle.std.specs.Option.{option_copied}
use Rattle.std.specs.Slice.{IsItemAt}
use Rattle.std.proofs.lemmas.Option.{slice_get-get_or}
use Rattle.std.proofs.lemmas.List.Sorted.{searched}
use Rattle.doc_sets.specs.Sets.{has, AreAbove, IsIncreasing, IsAt, IsGap, above, with_id, without_id}
use Rattle.doc_sets.specs.Kept.{AreBelow}
use Rattle.doc_sets.proofs.SetLemmas.{put-less, put-same, put-more, increasing-put, increasing-same, has-with_id}

at_tail : (x : ℕ) (xs : List ℕ) (d i : ℕ) → IsAt (x ∷ xs) d (suc i) → IsAt xs d i
at_tail x xs d i at = record { within = omega (arith, at.within); is = at.is }

gap_tail : (x : ℕ) (xs : List ℕ) (d i : ℕ) → IsGap (x ∷ xs) d (suc i) → IsGap xs d i
gap_tail x xs d i gap = record {
  within = omega (arith, gap.within);
  below = λ k l. gap.below (suc k) (omega arith);
  above = λ k l m. gap.above (suc k) (omega arith) (omega arith);
}

pub has-at : (xs : List ℕ) (d i : ℕ) → IsAt xs d i → has xs d ≡ true
has-at [] d i at = absurd (omega (arith, at.within))
has-at (x ∷ xs) d zero at = ap (λ b. b || has xs d) (eq-eqb x d at.is)
has-at (x ∷ xs) d (suc i) at = grind (arith, nat_tests, has-at xs d i (at_tail x xs d i at))

pub has-gap : (xs : List ℕ) (d i : ℕ) → IsGap xs d i → has xs d ≡ false
has-gap [] d i gap = refl
has-gap (x ∷ xs) d zero gap = grind (arith, nat_tests, gap.above 0 (omega arith) (omega arith), has-gap xs d zero (record { within = omega arith; below = λ k l. absurd (omega arith); above = λ k l m. gap.above (suc k) (omega arith) (omega arith) }))
has-gap (x ∷ xs) d (suc i) gap = grind (arith, nat_tests, gap.below 0 (omega arith), has-gap xs d i (gap_tail x xs d i gap))

pub insert-gap : (xs : List ℕ) (d i : ℕ) → IsGap xs d i → insert xs i d ≡ with_id d xs
insert-gap [] d zero gap = refl
insert-gap [] d (suc i) gap = absurd (omega (arith, gap.within))
insert-gap (x ∷ xs) d zero gap = sym (put-less d x xs (gap.above 0 (omega arith) (omega arith)))
insert-gap (x ∷ xs) d (suc i) gap = ap (λ v. x ∷ v) (insert-gap xs d i (gap_tail x xs d i gap)) ∙ sym (put-more d x xs (gap.below 0 (omega arith)))

first_less : (xs : List ℕ) (x d i : ℕ) → AreAbove x xs → IsAt xs d i → x < d
first_less [] x d i h at = absurd (omega (arith, at.within))
first_less (y ∷ ys) x d zero h at = omega (arith, h.0, at.is)
first_less (y ∷ ys) x d (suc i) h at = first_less ys x d i h.1 (at_tail y ys d i at)

pub put-at : (xs : List ℕ) (d i : ℕ) → IsIncreasing xs → IsAt xs d i → with_id d xs ≡ xs
put-at [] d i h at = absurd (omega (arith, at.within))
put-at (x ∷ xs) d zero h at = subst (λ v. with_id v (x ∷ xs) ≡ x ∷ xs) at.is (put-same x xs)
put-at (x ∷ xs) d (suc i) h at = let at' = at_tail x xs d i at in put-more d x xs (first_less xs x d i h.0 at') ∙ ap (λ v. x ∷ v) (put-at xs d i h.1 at')

pub remove-at : (xs : List ℕ) (d i : ℕ) → IsIncreasing xs → IsAt xs d i → remove xs i ≡ without_id d xs
remove-at [] d i h at = absurd (omega (arith, at.within))
remove-at (x ∷ xs) d zero h at = grind (arith, nat_tests, at.is)
remove-at (x ∷ xs) d (suc i) h at = let at' = at_tail x xs d i at in grind (arith, nat_tests, first_less xs x d i h.0 at', remove-at xs d i h.1 at')

pub out-absent : (xs : List ℕ) (d : ℕ) → has xs d ≡ false → without_id d xs ≡ xs
out-absent [] d h = refl
out-absent (x ∷ xs) d h = grind (arith, nat_tests, h, out-absent xs d)

-- what is read at a place
past : (xs : List ℕ) (i : ℕ) → length xs ≤ i → slice_get xs i ≡ None
past [] i l = refl
past (x ∷ xs) zero l = absurd (omega (arith, l))
past (x ∷ xs) (suc i) l = past xs i (omega (arith, l))

pub read-at : (xs : List ℕ) (i : ℕ) (r : Option (Bor ℕ)) → IsItemAt xs i r → option_copied r ≡ slice_get xs i
read-at xs i None h = sym (past xs i h.3)
read-at xs i (Some x) h = ap Some h.1 ∙ sym (slice_get-get_or xs i x.now h.3.0)

-- the first of what is greater stands behind the number, or where it would go
pub all-above : (d : ℕ) (xs : List ℕ) → AreAbove d xs → above d xs ≡ xs
all-above d [] h = refl
all-above d (x ∷ xs) h = cond-true (ltb d x) (x ∷ above d xs) (above d xs) (lt-ltb d x h.0) ∙ ap (λ v. x ∷ v) (all-above d xs h.1)

pub above-less : (d x : ℕ) (xs : List ℕ) → x ≤ d → above d (x ∷ xs) ≡ above d xs
above-less d x xs l = cond-false (ltb d x) (x ∷ above d xs) (above d xs) (le-ltb d x l)

pub above-at : (xs : List ℕ) (d i : ℕ) → IsIncreasing xs → IsAt xs d i → slice_get xs (suc i) ≡ slice_get (above d xs) 0
above-at [] d i h at = absurd (omega (arith, at.within))
above-at (x ∷ xs) d zero h at = sym (ap (λ v. slice_get v 0) (above-less d x xs (omega (arith, at.is)) ∙ all-above d xs (subst (λ v. AreAbove v xs) at.is h.0)))
above-at (x ∷ xs) d (suc i) h at =
    let at' = at_tail x xs d i at in
    above-at xs d i h.1 at' ∙ sym (ap (λ v. slice_get v 0) (above-less d x xs (omega (arith, first_less xs x d i h.0 at'))))

pub above-gap : (xs : List ℕ) (d i : ℕ) → IsGap xs d i → slice_get xs i ≡ slice_get (above d xs) 0
above-gap [] d i gap = refl
above-gap (x ∷ xs) d zero gap = sym (ap (λ v. slice_get v 0) (cond-true (ltb d x) (x ∷ above d xs) (above d xs) (lt-ltb d x (gap.above 0 (omega arith) (omega arith)))))
above-gap (x ∷ xs) d (suc i) gap = above-gap xs d i (gap_tail x xs d i gap) ∙ sym (ap (λ v. slice_get v 0) (above-less d x xs (omega (arith, gap.below 0 (omega arith)))))

pub increasing_places : (xs : List ℕ) → IsIncreasing xs → (i j : ℕ) → i ≤ j → j < length xs → get_or xs i 0 ≤ get_or xs j 0
increasing_places [] h i j l m = absurd (omega (arith, m))
increasing_places (x ∷ xs) h zero zero l m = omega arith
increasing_places (x ∷ xs) h zero (suc j) l m = later xs x j h.0 (omega (arith, m))
  where
    later : (ys : List ℕ) (x j : ℕ) → AreAbove x ys → j < length ys → x ≤ get_or ys j 0
    later [] x j h m = absurd (omega (arith, m))
    later (y ∷ ys) x zero h m = omega (arith, h.0)
    later (y ∷ ys) x (suc j) h m = later ys x j h.1 (omega (arith, m))
increasing_places (x ∷ xs) h (suc i) zero l m = absurd (omega (arith, l))
increasing_places (x ∷ xs) h (suc i) (suc j) l m = increasing_places xs h.1 i j (omega (arith, l)) (omega (arith, m))

pub placed : (xs : List ℕ) (d : ℕ) (r : Result ℕ ℕ) → IsIncreasing xs → IsBinarySearchResult (λ y. nat_cmp y d) xs r → IfErr r (IsGap xs d)
placed xs d (Ok i) h s = tt
placed xs d (Err i) h s = let f = searched xs d (Err i) s (increasing_places xs h) in record { within = f.0; below = f.1; above = f.2 }

-- edits of a list that has the number, or has it not
pub put-present : (d : ℕ) (xs : List ℕ) → IsIncreasing xs → has xs d ≡ true → with_id d xs ≡ xs
put-present d xs h e = increasing-same _ _ (increasing-put d xs h) h (λ q. has-with_id d q xs ∙ elim (cases_eq d q) [
  | inl s ↦ or_left (eqb d q) (has xs q) (eq-eqb d q s) ∙ sym (ap (has xs) (sym s) ∙ e)
  | inr a ↦ ap (λ b. b || has xs q) (ne_eqb d q a)
])

pub length-put : (d : ℕ) (xs : List ℕ) → has xs d ≡ false → length (with_id d xs) ≡ length xs + 1
length-put d [] e = refl
length-put d (x ∷ xs) e =
    let parts = or_parts (eqb x d) (has xs d) e in
    cond_both (ltb d x) (d ∷ (x ∷ xs)) (cond (eqb d x) (x ∷ xs) (x ∷ with_id d xs)) (λ v. length v ≡ suc (length xs) + 1) (λ _. omega arith)
    (λ _. cond_both (eqb d x) (x ∷ xs) (x ∷ with_id d xs) (λ v. length v ≡ suc (length xs) + 1)
    (λ s. absurd (eqb-false x d parts.0 (sym (eqb-true d x s)))) (λ _. omega (arith, length-put d xs parts.1)))

pub length-out : (d : ℕ) (xs : List ℕ) → has xs d ≡ true → length (without_id d xs) + 1 ≡ length xs
length-out d [] e = absurd (cc)
length-out d (x ∷ xs) e =
    cond_both (eqb d x) xs (x ∷ without_id d xs) (λ v. length v + 1 ≡ suc (length xs)) (λ _. omega arith)
    (λ s. omega (arith, length-out d xs (sym (ap (λ b. b || has xs d) (ne_eqb x d (λ t. eqb-false d x s (sym t)))) ∙ e)))

-- a number behind all others goes to the end
pub put-behind : (d : ℕ) (xs : List ℕ) → AreBelow d xs → with_id d xs ≡ xs ++ d ∷ []
put-behind d [] h = refl
put-behind d (x ∷ xs) h = put-more d x xs (h 0 (omega arith)) ∙ ap (λ v. x ∷ v) (put-behind d xs (λ k l. h (suc k) (omega (arith, l))))
