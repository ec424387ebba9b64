-- Documents with the numbers at their places.
use Rattle.std.proofs.Common.{◌≡◌, ℕ, suc, zero, ℤ, Bool, true, false, not, ◌&&◌, ◌||◌, List, [], ◌∷◌, ◌++◌, map, slice_get, Option, Some, refl, sym, ap, subst, ◌∙◌}
use Rattle.std.specs.Option.{option_map}
use Rattle.std.specs.List.{list_any, AllByRecursion}
use Rattle.search_base.specs.declared.cost_key.CostKey.{CostKey}
use Rattle.search_base.specs.declared.document.DocId.{DocId}
use Rattle.search_base.specs.CostOrder.{before}
use Rattle.search_base.proofs.CostOrderLemmas.{before-strict, before-alike}
use Rattle.bucket_sort.specs.Classes.{same}
use Rattle.sort_rule.specs.Rows.{AreRows}
use Rattle.sort_rule.specs.Numbers.{number_key}
use Rattle.tests_rules.specs.Priced.{priced_keys, priced_key, priced_missing}

same-itself : (k : CostKey) → same before k k ≡ true
same-itself k = ap (λ b. not b && not b) (before-strict.irreflexive k)

known-at : (up : Bool) (numbers : List ℤ) (d : ℕ) (k : CostKey) → priced_key up numbers d ≡ Some k → list_any (same before k) (priced_keys up numbers) ≡ true
known-at up [] d k is = absurd (cc)
known-at up (n ∷ ns) zero k is =
    let it : number_key up n ≡ k = cc in
    ap (λ b. b || list_any (same before k) (priced_keys up ns)) (subst (λ j. same before k j ≡ true) (sym it) (same-itself k))
known-at up (n ∷ ns) (suc d) k is = or-right (same before k (number_key up n)) _ (known-at up ns d k is)
  where
    or-right : (a b : Bool) → b ≡ true → (a || b) ≡ true
    or-right true b h = refl
    or-right false b h = h

number-sooner : (up : Bool) (n : ℤ) → before (number_key up n) (priced_missing up) ≡ true
number-sooner true n = refl
number-sooner false n = refl

all-sooner : (up : Bool) (numbers : List ℤ) (k : CostKey) → list_any (same before k) (priced_keys up numbers) ≡ true → before k (priced_missing up) ≡ true
all-sooner up [] k is = absurd (cc)
all-sooner up (n ∷ ns) k is = tests (same before k (number_key up n)) refl is (λ h. all-sooner up ns k h)
  where
    neither : (a b : Bool) → (not a && not b) ≡ true → (a ≡ false) × (b ≡ false)
    neither true b e = absurd (cc)
    neither false true e = absurd (cc)
    neither false false e = (refl, refl)

    tests : (b : Bool) → same before k (number_key up n) ≡ b → (b || list_any (same before k) (priced_keys up ns)) ≡ true
        → (list_any (same before k) (priced_keys up ns) ≡ true → before k (priced_missing up) ≡ true) → before k (priced_missing up) ≡ true
    tests true e is further =
        let both = neither (before k (number_key up n)) (before (number_key up n) k) e in
        subst (λ j. before j (priced_missing up) ≡ true) (sym (before-alike k (number_key up n) both.0 both.1)) (number-sooner up n)
    tests false e is further = further is

pub priced-rows : (up : Bool) (numbers : List ℤ) → AreRows (priced_keys up numbers) (priced_key up numbers) (priced_missing up)
priced-rows up numbers = record { known = known-at up numbers; sooner = all-sooner up numbers }

-- ---- one document more

pub record AreYet (up : Bool) (numbers : List ℤ) (universe left : List ℕ) (pairs : List (ℤ × DocId)) : Type 0 where
  pub ids : map (λ pair. pair.1.0) pairs ++ left ≡ universe
  pub keys : AllByRecursion (λ pair. priced_key up numbers pair.1.0 ≡ Some (number_key up pair.0)) pairs

all-push : {X : Type 0} (P : X → Type 0) (xs : List X) (y : X) → AllByRecursion P xs → P y → AllByRecursion P (xs ++ (y ∷ []))
all-push P [] y all last = (last, tt)
all-push P (x ∷ xs) y all last = (all.0, all-push P xs y all.1 last)

ids-push : (pairs : List (ℤ × DocId)) (pair : ℤ × DocId) (left : List ℕ)
    → map (λ (p : ℤ × DocId). p.1.0) (pairs ++ (pair ∷ [])) ++ left ≡ map (λ (p : ℤ × DocId). p.1.0) pairs ++ (pair.1.0 ∷ left)
ids-push [] pair left = refl
ids-push (p ∷ pairs) pair left = ap (λ l. p.1.0 ∷ l) (ids-push pairs pair left)

pub one-more : (up : Bool) (numbers : List ℤ) (universe whole left : List ℕ) (pairs more : List (ℤ × DocId)) (number : ℤ) (id : DocId) → AreYet up numbers universe whole pairs
    → whole ≡ id.0 ∷ left → slice_get numbers id.0 ≡ Some number → more ≡ pairs ++ ((number, id) ∷ []) → AreYet up numbers universe left more
one-more up numbers universe whole left pairs more number id yet is at pushed = subst (AreYet up numbers universe left) (sym pushed) record {
  ids = ids-push pairs (number, id) left ∙ ap (λ l. map (λ (p : ℤ × DocId). p.1.0) pairs ++ l) (sym is) ∙ yet.ids;
  keys = all-push _ pairs (number, id) yet.keys (keyed (slice_get numbers id.0) at);
}
  where
    keyed : (o : Option ℤ) → o ≡ Some number → option_map (number_key up) o ≡ Some (number_key up number)
    keyed o e = ap (option_map (number_key up)) e
