-- The least of numbers, by the members that have each.
use Rattle.std.proofs.Common.{◌≡◌, ℕ, ◌<◌, ◌≤◌, ◌⊎◌, inl, inr, Bool, true, List, [], ◌∷◌, eqb, Option, None, Some, refl, ap, ◌∙◌, arith, min}
use Rattle.std.specs.List.{list_any}
use Rattle.std.specs.Option.{option_eq}
use Rattle.std.proofs.lemmas.Bool.{eqb-true, eq-eqb, or_left, or_right, cases_lt}
use Rattle.search_base.specs.Least.{lesser, least_by}
use Rattle.posting_sets.proofs.WalkLemmas.{either_true}

pub is_some_of : (o : Option ℕ) (n : ℕ) → option_eq eqb o (Some n) ≡ true → o ≡ Some n
is_some_of None n h = absurd (cc)
is_some_of (Some m) n h = ap Some (eqb-true m n h)

pub some_is : (o : Option ℕ) (n : ℕ) → o ≡ Some n → option_eq eqb o (Some n) ≡ true
some_is o n e = ap (λ v. option_eq eqb v (Some n)) e ∙ eq-eqb n n refl

module _ {X : Type 0} (f : X → Option ℕ) where
  -- some member has this number
  abbrev pub some_has : List X → ℕ → Bool
  some_has xs n = list_any (λ x. option_eq eqb (f x) (Some n)) xs

  from_two : (o r : Option ℕ) (n : ℕ) → lesser o r ≡ Some n → (o ≡ Some n) ⊎ (r ≡ Some n)
  from_two None r n e = inr e
  from_two (Some m) None n e = inl e
  from_two (Some m) (Some k) n e = elim (cases_lt k m) [
    | inl less ↦ inr (let s : min m k ≡ n = cc in ap Some (omega arith))
    | inr more ↦ inl (let s : min m k ≡ n = cc in ap Some (omega arith))
  ]

  pub least_has : (xs : List X) (n : ℕ) → least_by f xs ≡ Some n → some_has xs n ≡ true
  least_has [] n e = absurd (cc)
  least_has (x ∷ xs) n e = elim (from_two (f x) (least_by f xs) n e) [
    | inl here ↦ or_left _ (some_has xs n) (some_is (f x) n here)
    | inr later ↦ or_right (option_eq eqb (f x) (Some n)) _ (least_has xs n later)
  ]

  first_low : (o r : Option ℕ) (n : ℕ) → o ≡ Some n → (k : ℕ) × (lesser o r ≡ Some k) × (k ≤ n)
  first_low o None n e = (n, ap (λ v. lesser v None) e, omega arith)
  first_low o (Some m) n e = (min n m, ap (λ v. lesser v (Some m)) e, omega arith)

  later_low : (o r : Option ℕ) (k n : ℕ) → r ≡ Some k → k ≤ n → (j : ℕ) × (lesser o r ≡ Some j) × (j ≤ n)
  later_low None r k n e l = (k, e, l)
  later_low (Some m) r k n e l = (min m k, ap (lesser (Some m)) e, omega arith)

  least_low : (xs : List X) (n : ℕ) → some_has xs n ≡ true → (k : ℕ) × (least_by f xs ≡ Some k) × (k ≤ n)
  least_low [] n h = absurd (cc)
  least_low (x ∷ xs) n h = either_true (option_eq eqb (f x) (Some n)) (some_has xs n) h
      (λ here. first_low (f x) (least_by f xs) n (is_some_of (f x) n here))
      (λ there. let low = least_low xs n there in later_low (f x) (least_by f xs) low.0 n low.1 low.2)

  -- a number is the least if some member has it, and none has one below
  pub least_is : (xs : List X) (n : ℕ) → some_has xs n ≡ true → ((m : ℕ) → m < n → some_has xs m ≡ true → ⊥) → least_by f xs ≡ Some n
  least_is xs n h none =
      let low = least_low xs n h in
      elim (cases_lt low.0 n) [
        | inl less ↦ absurd (none low.0 less (least_has xs low.0 low.1))
        | inr more ↦ low.1 ∙ ap Some (let l = low.2 in omega arith)
      ]

  pub none_lower : (xs : List X) (n m : ℕ) → least_by f xs ≡ Some n → m < n → some_has xs m ≡ true → ⊥
  none_lower xs n m e l h = let low = least_low xs m h in let same : low.0 ≡ n = cc in let k = low.2 in omega arith
