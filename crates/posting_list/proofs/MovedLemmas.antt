-- What entries that go or come may be of.
use Rattle.std.proofs.Common.{◌≡◌, ℕ, ◌≤◌, ◌/◌, ◌^◌, Bool, true, false, ◌&&◌, ◌||◌, List, [], ◌∷◌, ◌++◌, leb, eqb, refl, sym, ap, ap₂, subst, ◌∙◌, arith}
use Rattle.std.specs.Bool.{OnTrue, OnFalse}
use Rattle.std.specs.List.{AllByRecursion}
use Rattle.std.proofs.lemmas.Bool.{eqb-true, le-leb, leb-true, and_from, false_from_ne_true}
use Rattle.posting_list.specs.declared.part.Part.{Part}
use Rattle.posting_list.specs.declared.part.Part.TheVariants.{All, First, Path, Start, Later}
use Rattle.posting_list.specs.Sets.{path_of, is_first, is_part, has_passing, IsWithin}

on_true : (P : Type 0) (b : Bool) → OnTrue b P → b ≡ true → P
on_true P true p e = p
on_true P false p e = absurd (cc)

both : (a b : Bool) → (a && b) ≡ true → (a ≡ true) × (b ≡ true)
both true b h = (refl, h)
both false b h = absurd (cc)

module _ (least greatest : ℕ) (first : Bool) where
  abbrev pub may : Part → Bool
  may All = true
  may First = first
  may (Path path) = leb least path && leb path greatest
  may (Start path) = first && (leb least path && leb path greatest)
  may Later = leb 8 greatest

  has_first : (e : ℕ) → IsWithin least greatest first e → is_first e ≡ true → first ≡ true
  has_first e w t = on_true (first ≡ true) (is_first e) w.2 t

  has_path : (e path : ℕ) → IsWithin least greatest first e → eqb (path_of e) path ≡ true → (leb least path && leb path greatest) ≡ true
  has_path e path w t =
      let is : path_of e ≡ path = eqb-true (path_of e) path t in
      and_from _ _ (le-leb least path (subst (λ p. least ≤ p) is w.0)) (le-leb path greatest (subst (λ p. p ≤ greatest) is w.1))

  may_be : (part : Part) (e : ℕ) → IsWithin least greatest first e → is_part part e ≡ true → may part ≡ true
  may_be All e w t = refl
  may_be First e w t = has_first e w t
  may_be (Path path) e w t = has_path e path w t
  may_be (Start path) e w t = let b = both _ _ t in and_from _ _ (has_first e w b.1) (has_path e path w b.0)
  may_be Later e w t = le-leb 8 greatest (let l = leb-true 8 (path_of e) t in let h = w.1 in omega arith)

  none : (part : Part) (xs : List ℕ) → AllByRecursion (IsWithin least greatest first) xs → may part ≡ false → AllByRecursion (λ e. is_part part e ≡ false) xs
  none part [] all h = tt
  none part (x ∷ xs) all h = (false_from_ne_true (is_part part x) (λ t. let m = may_be part x all.0 t in cc), none part xs all.1 h)

  -- none is of a part that none may be of
  pub none_of : (part same : Part) → part ≡ same → (b : Bool) → b ≡ may same → (xs ys : List ℕ) → xs ≡ ys → AllByRecursion (IsWithin least greatest first) ys
      → OnFalse b (AllByRecursion (λ e. is_part part e ≡ false) xs)
  none_of part same e b is xs ys eq all =
      subst (λ v. OnFalse b (AllByRecursion (λ e. is_part part e ≡ false) v)) (sym eq)
      (subst (λ p. OnFalse b (AllByRecursion (λ e. is_part p e ≡ false) ys)) (sym e) (by b is))
    where
      by : (b : Bool) → b ≡ may same → OnFalse b (AllByRecursion (λ e. is_part same e ≡ false) ys)
      by true is = tt
      by false is = none same ys all (sym is)

-- one entry more
widened : (l g k h : ℕ) (f d : Bool) → k ≤ l → g ≤ h → (f ≡ true → d ≡ true) → (xs : List ℕ) → AllByRecursion (IsWithin l g f) xs → AllByRecursion (IsWithin k h d) xs
widened l g k h f d low high first [] all = tt
widened l g k h f d low high first (x ∷ xs) all =
    (((let a = all.0.0 in omega arith), (let a = all.0.1 in omega arith), on (is_first x) all.0.2), widened l g k h f d low high first xs all.1)
  where
    on : (b : Bool) → OnTrue b (f ≡ true) → OnTrue b (d ≡ true)
    on true t = first t
    on false t = tt

behind : (P : ℕ → Type 0) (xs : List ℕ) (x : ℕ) → AllByRecursion P xs → P x → AllByRecursion P (xs ++ x ∷ [])
behind P [] x all one = (one, tt)
behind P (y ∷ ys) x all one = (all.0, behind P ys x all.1 one)

pub one_more : (l g k h : ℕ) (f d : Bool) → k ≤ l → g ≤ h → (f ≡ true → d ≡ true) → (xs : List ℕ) (x : ℕ) → AllByRecursion (IsWithin l g f) xs
    → IsWithin k h d x → AllByRecursion (IsWithin k h d) (xs ++ x ∷ [])
one_more l g k h f d low high first xs x all one = behind (IsWithin k h d) xs x (widened l g k h f d low high first xs all) one

-- none passes
pub none_passing : (p : ℕ → Bool) (xs : List ℕ) → AllByRecursion (λ e. p e ≡ false) xs → (id : ℕ) → has_passing p xs id ≡ false
none_passing p [] all id = refl
none_passing p (x ∷ xs) all id = ap₂ (λ a b. a || b) (ap (λ b. eqb (x / 2 ^ 32) id && b) all.0 ∙ and_false (eqb (x / 2 ^ 32) id)) (none_passing p xs all.1 id)
  where
    and_false : (b : Bool) → (b && false) ≡ false
    and_false true = refl
    and_false false = refl

-- what is said where one entry at least is at the beginning of its path
pub on_any : (P : Type 0) (b : Bool) → P → OnTrue b P
on_any P true p = p
on_any P false p = tt

pub on_same : (b d : Bool) → d ≡ b → OnTrue b (d ≡ true)
on_same true d e = e
on_same false d e = tt
