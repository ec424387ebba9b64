-- Names that are put in one after the other, to wait for their numbers.
use Rattle.std.proofs.Common.{◌≡◌, ℕ, suc, ◌+◌, ◌<◌, true, List, ◌∷◌, length, drop, get_or, sym, ap, subst, ◌∙◌, add-one, drop-cons}
use Rattle.path_registry.specs.Names.{Names, number_at, is_kept, AreKept}

-- all of the names are there once those that are left are; no number changes
pub record Reserved (all left : List (List ℕ)) (old now : Names) : Type 0 where
  pub numbers : (q : List ℕ) → number_at q now ≡ number_at q old
  pub kept : (q : List ℕ) → is_kept q old ≡ true → is_kept q now ≡ true
  pub rest : (later : Names) → ((q : List ℕ) → is_kept q now ≡ true → is_kept q later ≡ true) → AreKept left later → AreKept all later

pub reserved_one : (all : List (List ℕ)) (name : List ℕ) (left : List (List ℕ)) (old now new : Names) → Reserved all (name ∷ left) old now
    → ((q : List ℕ) → number_at q new ≡ number_at q now) → ((q : List ℕ) → is_kept q now ≡ true → is_kept q new ≡ true) → is_kept name new ≡ true → Reserved all left old new
reserved_one all name left old now new h same more here = record {
  numbers = λ q. same q ∙ h.numbers q;
  kept = λ q k. more q (h.kept q k);
  rest = λ later grows k. h.rest later (λ q was. grows q (more q was)) (grows name here, k);
}

-- what is left begins with this item
pub drop-item : {X : Type 0} (xs : List X) (i : ℕ) (x : X) → i < length xs → x ≡ get_or xs i x → drop i xs ≡ x ∷ drop (i + 1) xs
drop-item xs i x h is = drop-cons xs i x h ∙ ap (λ v. v ∷ drop (suc i) xs) (sym is) ∙ ap (λ n. x ∷ drop n xs) (sym (add-one i))

pub reserved_item : (all : List (List ℕ)) (i : ℕ) (name text : List ℕ) (old now new : Names) → i < length all → name ≡ get_or all i name → text ≡ name → Reserved all (drop i all) old now
    → ((q : List ℕ) → number_at q new ≡ number_at q now) → ((q : List ℕ) → is_kept q now ≡ true → is_kept q new ≡ true) → is_kept text new ≡ true → Reserved all (drop (i + 1) all) old new
reserved_item all i name text old now new within is same h numbers more here =
    reserved_one all name (drop (i + 1) all) old now new (subst (λ left. Reserved all left old now) (drop-item all i name within is) h) numbers more (ap (λ v. is_kept v new) (sym same) ∙ here)
