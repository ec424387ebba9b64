-- Lists with one more behind.
use Rattle.std.proofs.Common.{◌≡◌, ℕ, ◌+◌, Bool, true, false, cond, ◌||◌, List, [], ◌∷◌, ◌++◌, length, filter, refl, ap, ◌∙◌, arith, true≢false}
use Rattle.std.specs.List.{list_any}
use Rattle.std.proofs.lemmas.List.Elements.{filter-append}
use Rattle.std.proofs.lemmas.List.Folds.{list_any-append}

-- 1 where it is true
abbrev pub one_if : Bool → ℕ
one_if true = 1
one_if false = 0

or-false : (b : Bool) → (b || false) ≡ b
or-false true = refl
or-false false = refl

module _ {X : Type 0} (p : X → Bool) where
  pub any-behind : (xs : List X) (x : X) → list_any p (xs ++ x ∷ []) ≡ (list_any p xs || p x)
  any-behind xs x = list_any-append p xs (x ∷ []) ∙ ap (λ b. list_any p xs || b) (or-false (p x))

  pub filter-behind : (xs : List X) (x : X) (b : Bool) → p x ≡ b → filter p (xs ++ x ∷ []) ≡ filter p xs ++ cond b (x ∷ []) []
  filter-behind xs x b e = filter-append p xs (x ∷ []) ∙ ap (λ b. filter p xs ++ cond b (x ∷ []) []) e

  pub length-behind : (xs : List X) (x : X) → length (filter p (xs ++ x ∷ [])) ≡ length (filter p xs) + one_if (p x)
  length-behind [] x = by (p x)
    where
      by : (b : Bool) → length (cond b (x ∷ []) []) ≡ 0 + one_if b
      by true = refl
      by false = refl
  length-behind (y ∷ xs) x = by (p y) (length-behind xs x)
    where
      by : (b : Bool) → length (filter p (xs ++ x ∷ [])) ≡ length (filter p xs) + one_if (p x) → length (cond b (y ∷ filter p (xs ++ x ∷ [])) (filter p (xs ++ x ∷ []))) ≡ length (cond b (y ∷ filter p xs) (filter p xs)) + one_if (p x)
      by true h = omega arith
      by false h = h

  -- where none passes, nothing is left
  pub filter-none : (xs : List X) → list_any p xs ≡ false → filter p xs ≡ []
  filter-none [] h = refl
  filter-none (x ∷ xs) h = by (p x) h (filter-none xs)
    where
      by : (b : Bool) → (b || list_any p xs) ≡ false → (list_any p xs ≡ false → filter p xs ≡ []) → cond b (x ∷ filter p xs) (filter p xs) ≡ []
      by true h again = absurd (true≢false h)
      by false h again = again h
