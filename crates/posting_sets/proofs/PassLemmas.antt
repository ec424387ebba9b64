-- What is left of a list's entries behind a document, or from a number on.
use Rattle.std.proofs.Common.{◌≡◌, ℕ, ◌+◌, ◌*◌, ◌^◌, ◌<◌, ◌≤◌, Bool, true, false, ◌||◌, cond, List, [], ◌∷◌, drop, Option, None, Some, MatchOption, eqb, leb, ltb, refl, sym, ap, subst, ◌∙◌, arith}
use Rattle.std.specs.List.{filter, slice_get, All}
use Rattle.std.specs.Option.{option_eq}
use Rattle.std.proofs.lemmas.List.Elements.{filter_passes}
use Rattle.std.proofs.lemmas.Bool.{cond-true, cond-false, cond_both, leb-true, eqb-true, eqb-false, ltb-true, le-leb, lt-ltb, le-ltb, ne_eqb, false_from_ne_true}
use Rattle.sorted_pages.specs.Entries.{has, AreAbove, IsIncreasing}
use Rattle.sorted_pages.proofs.SetLemmas.{has-above}
use Rattle.posting_sets.specs.Entries.{document_of}

-- what passes a test passes one that follows from it
pub filter-within : (p q : ℕ → Bool) (xs : List ℕ) → ((x : ℕ) → p x ≡ true → q x ≡ true) → filter p (filter q xs) ≡ filter p xs
filter-within p q [] h = refl
filter-within p q (x ∷ xs) h =
    let again = filter-within p q xs h in
    cond_both (q x) (x ∷ filter q xs) (filter q xs) (λ v. filter p v ≡ filter p (x ∷ xs))
    (λ _. ap (λ v. cond (p x) (x ∷ v) v) again)
    (λ e. again ∙ sym (cond-false (p x) _ _ (false_from_ne_true (p x) (λ t. let u = h x t in cc))))

-- of what is above a number all passes a test of which all above passes
pub filter-above : (p : ℕ → Bool) (a : ℕ) (xs : List ℕ) → AreAbove a xs → ((x : ℕ) → a < x → p x ≡ true) → filter p xs ≡ xs
filter-above p a [] above h = refl
filter-above p a (x ∷ xs) above h = cond-true (p x) _ _ (h x above.0) ∙ ap (λ v. x ∷ v) (filter-above p a xs above.1 h)

-- ---- an entry that is sought in what a list has from a number on
pub all_from : (xs : List ℕ) → filter (leb 0) xs ≡ xs
all_from [] = refl
all_from (x ∷ xs) = cond-true (leb 0 x) _ _ (le-leb 0 x (omega arith)) ∙ ap (λ v. x ∷ v) (all_from xs)

pub from_more : (least entry : ℕ) (xs : List ℕ) → least ≤ entry → filter (leb entry) (filter (leb least) xs) ≡ filter (leb entry) xs
from_more least entry xs l = filter-within (leb entry) (leb least) xs (λ x t. le-leb least x (let k = leb-true entry x t in omega arith))

-- it is there if it is the first that is not below it
pub first_is : (entry : ℕ) (xs : List ℕ) → IsIncreasing xs → option_eq eqb (slice_get (filter (leb entry) xs) 0) (Some entry) ≡ has xs entry
first_is entry [] up = refl
first_is entry (x ∷ xs) up = by (leb entry x) refl (first_is entry xs up.1)
  where
    last : (b : Bool) → b ≡ (b || false)
    last true = refl
    last false = refl

    by : (b : Bool) → leb entry x ≡ b → option_eq eqb (slice_get (filter (leb entry) xs) 0) (Some entry) ≡ has xs entry
        → option_eq eqb (slice_get (cond b (x ∷ filter (leb entry) xs) (filter (leb entry) xs)) 0) (Some entry) ≡ (eqb x entry || has xs entry)
    by true t again = last (eqb x entry) ∙ ap (λ b. eqb x entry || b) (sym (has-above x entry xs up.0 (leb-true entry x t)))
    by false f again = again ∙ ap (λ b. b || has xs entry) (sym (ne_eqb x entry (λ e. let t = le-leb entry x (omega (arith, e)) in cc)))

pub rest_of : (r : Option ℕ) (old new : List ℕ) → MatchOption r ((old ≡ []) × (new ≡ [])) (λ x. old ≡ x ∷ new) → new ≡ drop 1 old
rest_of None old new step = step.1 ∙ sym (ap (drop 1) step.0)
rest_of (Some x) old new step = sym (ap (drop 1) step)

-- ---- documents
beyond : (id last x : ℕ) → last ≡ id * 2 ^ 32 + 4294967295 → ltb id (document_of x) ≡ true → leb last x ≡ true
beyond id last x e t = le-leb last x (let l = ltb-true id (document_of x) t in omega arith)

behind : (id last x : ℕ) → last ≡ id * 2 ^ 32 + 4294967295 → last < x → ltb id (document_of x) ≡ true
behind id last x e l = lt-ltb id (document_of x) (omega arith)

at_last : (id last : ℕ) → last ≡ id * 2 ^ 32 + 4294967295 → ltb id (document_of last) ≡ false
at_last id last e = le-ltb id (document_of last) (omega arith)

-- what is left behind a document, where the entries from its last possible one on are left
module _ (id last : ℕ) (is : last ≡ id * 2 ^ 32 + 4294967295) where
  abbrev later_than : ℕ → Bool
  later_than x = ltb id (document_of x)

  split : (x : ℕ) (xs : List ℕ) → IsIncreasing (x ∷ xs) → last ≤ x → (x ≡ last → ⊥) → filter later_than (x ∷ xs) ≡ x ∷ xs
  split x xs up l apart =
      cond-true (later_than x) _ _ (behind id last x is (omega (arith, apart)))
      ∙ ap (λ v. x ∷ v) (filter-above later_than x xs up.0 (λ z h. behind id last z is (omega arith)))

  first_from : (list xs : List ℕ) → xs ≡ filter (leb last) list → (x : ℕ) (later : List ℕ) → xs ≡ x ∷ later → last ≤ x
  first_from list xs e x later s =
      let all = subst (λ (v : List ℕ). All (λ z. leb last z ≡ true) v) (sym e ∙ s) (filter_passes (leb last) list) in
      leb-true last x (all 0 x (omega arith))

  pub passed_then : (list xs : List ℕ) → IsIncreasing xs → xs ≡ filter (leb last) list → option_eq eqb (slice_get xs 0) (Some last) ≡ true → drop 1 xs ≡ filter later_than list
  passed_then list [] up e h = absurd (cc)
  passed_then list (x ∷ xs) up e h =
      let same : x ≡ last = eqb-true x last h in
      sym (filter-above later_than x xs up.0 (λ z l. behind id last z is (omega arith)))
      ∙ sym (cond-false (later_than x) _ _ (subst (λ y. ltb id (document_of y) ≡ false) (sym same) (at_last id last is)))
      ∙ ap (filter later_than) e ∙ filter-within later_than (leb last) list (λ z t. beyond id last z is t)

  pub passed_else : (list xs : List ℕ) → IsIncreasing xs → xs ≡ filter (leb last) list → option_eq eqb (slice_get xs 0) (Some last) ≡ false → xs ≡ filter later_than list
  passed_else list [] up e h = ap (filter later_than) e ∙ filter-within later_than (leb last) list (λ z t. beyond id last z is t)
  passed_else list (x ∷ xs) up e h =
      sym (split x xs up (first_from list (x ∷ xs) e x xs refl) (eqb-false x last h))
      ∙ ap (filter later_than) e ∙ filter-within later_than (leb last) list (λ z t. beyond id last z is t)
