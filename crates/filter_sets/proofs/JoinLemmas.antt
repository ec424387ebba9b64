-- Sets of the documents that pass, by their members.
use Rattle.std.proofs.Common.{◌≡◌, ℕ, Bool, true, false, not, ◌&&◌, ◌||◌, cond, List, [], ◌∷◌, refl, sym, ap, ap₂, ◌∙◌}
use Rattle.std.specs.List.{filter}
use Rattle.doc_sets.specs.Sets.{has, IsIncreasing, difference, union}
use Rattle.doc_sets.specs.Membership.{AreByMembers, AreTheirMembers}
use Rattle.facet_index.proofs.TestLemmas.{has_filter, increasing_filter}

pub except_is : AreByMembers → AreTheirMembers → (all docs rest : List ℕ) (passes : ℕ → Bool) → IsIncreasing rest → IsIncreasing all → rest ≡ difference all docs
    → docs ≡ filter passes all → rest ≡ filter (λ d. not (passes d)) all
except_is by_members theirs all docs rest passes increasing ordered is made =
    theirs rest (filter (λ d. not (passes d)) all) increasing (increasing_filter (λ d. not (passes d)) all ordered)
    (λ d. ap (λ ids. has ids d) is ∙ by_members.difference all docs d
    ∙ ap (λ b. has all d && not b) (ap (λ ids. has ids d) made ∙ has_filter passes all d)
    ∙ by (passes d) (has all d) ∙ sym (has_filter (λ e. not (passes e)) all d))
  where
    by : (p a : Bool) → (a && not (p && a)) ≡ (not p && a)
    by true true = refl
    by true false = refl
    by false true = refl
    by false false = refl

pub either_is : AreByMembers → AreTheirMembers → (all docs more both : List ℕ) (passes other : ℕ → Bool) → IsIncreasing both → IsIncreasing all → both ≡ union docs more
    → docs ≡ filter passes all → more ≡ filter other all → both ≡ filter (λ d. passes d || other d) all
either_is by_members theirs all docs more both passes other increasing ordered is made also =
    theirs both (filter (λ d. passes d || other d) all) increasing (increasing_filter (λ d. passes d || other d) all ordered)
    (λ d. ap (λ ids. has ids d) is ∙ by_members.union docs more d
    ∙ ap₂ (λ a b. a || b) (ap (λ ids. has ids d) made ∙ has_filter passes all d) (ap (λ ids. has ids d) also ∙ has_filter other all d)
    ∙ by (passes d) (other d) (has all d) ∙ sym (has_filter (λ e. passes e || other e) all d))
  where
    by : (p q a : Bool) → ((p && a) || (q && a)) ≡ ((p || q) && a)
    by true true true = refl
    by true true false = refl
    by true false true = refl
    by true false false = refl
    by false true true = refl
    by false true false = refl
    by false false a = refl

pub filter_twice : {X : Type 0} (p q : X → Bool) (xs : List X) → filter p (filter q xs) ≡ filter (λ x. q x && p x) xs
filter_twice p q [] = refl
filter_twice p q (x ∷ xs) = by (q x) (filter_twice p q xs)
  where
    by : (b : Bool) → filter p (filter q xs) ≡ filter (λ y. q y && p y) xs
        → filter p (cond b (x ∷ filter q xs) (filter q xs)) ≡ cond (b && p x) (x ∷ filter (λ y. q y && p y) xs) (filter (λ y. q y && p y) xs)
    by true later = ap (λ rest. cond (p x) (x ∷ rest) rest) later
    by false later = later

pub filter_all : {X : Type 0} (xs : List X) → filter (λ x. true) xs ≡ xs
filter_all [] = refl
filter_all (x ∷ xs) = ap (λ rest. x ∷ rest) (filter_all xs)

pub filter_none : {X : Type 0} (p : X → Bool) (xs : List X) → ((x : X) → p x ≡ false) → [] ≡ filter p xs
filter_none p [] none = refl
filter_none p (x ∷ xs) none = filter_none p xs none ∙ sym (ap (λ b. cond b (x ∷ filter p xs) (filter p xs)) (none x))

-- one set more of those that were found
pub one_more : (o h a f : Bool) → ((o && a) || ((h && a) || f)) ≡ (((h || o) && a) || f)
one_more true true true f = refl
one_more true true false f = refl
one_more true false true f = refl
one_more true false false f = refl
one_more false true true f = refl
one_more false true false f = refl
one_more false false a f = refl
