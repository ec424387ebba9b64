-- Tests of lists.
use Rattle.std.proofs.Common.{◌≡◌, ℕ, Bool, true, false, ◌&&◌, ◌||◌, ◌==◌, cond, List, [], ◌∷◌, map, refl, sym, ap, ap₂, ◌∙◌}
use Rattle.std.specs.List.{filter, list_any, AllByRecursion}
use Rattle.std.proofs.lemmas.Bool.{eqb-true}
use Rattle.doc_sets.specs.Sets.{has, AreAbove, IsIncreasing}

pub same_bool : (a b : Bool) → (a ≡ true → b ≡ true) → (b ≡ true → a ≡ true) → a ≡ b
same_bool true b f g = sym (f refl)
same_bool false true f g = g refl
same_bool false false f g = refl

pub both : (a b : Bool) → (a && b) ≡ true → (a ≡ true) × (b ≡ true)
both true true h = (refl, refl)
both true false h = absurd (cc)
both false b h = absurd (cc)

pub never : (a : Bool) → (a ≡ true → ⊥) → a ≡ false
never true f = absurd (f refl)
never false f = refl

pub any_map : {X Y : Type 0} (f : X → Y) (p : Y → Bool) (xs : List X) → list_any p (map f xs) ≡ list_any (λ x. p (f x)) xs
any_map f p [] = refl
any_map f p (x ∷ xs) = ap (λ b. p (f x) || b) (any_map f p xs)

-- tests that agree at the elements
pub any_where : {X : Type 0} (P : X → Type 0) (p q : X → Bool) (xs : List X) → AllByRecursion P xs → ((x : X) → P x → p x ≡ q x)
    → list_any p xs ≡ list_any q xs
any_where P p q [] all same = refl
any_where P p q (x ∷ xs) all same = ap₂ (λ a b. a || b) (same x all.0) (any_where P p q xs all.1 same)

pub any_same : {X : Type 0} (p q : X → Bool) (xs : List X) → ((x : X) → p x ≡ q x) → list_any p xs ≡ list_any q xs
any_same p q [] same = refl
any_same p q (x ∷ xs) same = ap₂ (λ a b. a || b) (same x) (any_same p q xs same)

pub any_none : {X : Type 0} (P : X → Type 0) (p : X → Bool) (xs : List X) → AllByRecursion P xs → ((x : X) → P x → p x ≡ false)
    → list_any p xs ≡ false
any_none P p [] all none = refl
any_none P p (x ∷ xs) all none = ap₂ (λ a b. a || b) (none x all.0) (any_none P p xs all.1 none)

pub any_and : {X : Type 0} (b : Bool) (p : X → Bool) (xs : List X) → list_any (λ x. p x && b) xs ≡ (b && list_any p xs)
any_and true p [] = refl
any_and false p [] = refl
any_and b p (x ∷ xs) = ap (λ v. (p x && b) || v) (any_and b p xs) ∙ by b (p x) (list_any p xs)
  where
    by : (b t u : Bool) → ((t && b) || (b && u)) ≡ (b && (t || u))
    by true true u = refl
    by true false u = refl
    by false true u = refl
    by false false u = refl

pub any_implies : {X : Type 0} (p q : X → Bool) (xs : List X) → ((x : X) → p x ≡ true → q x ≡ true) → list_any p xs ≡ true → list_any q xs ≡ true
any_implies p q [] f h = h
any_implies p q (x ∷ xs) f h = by (p x) refl h (any_implies p q xs f)
  where
    or_true : (b : Bool) → (b || true) ≡ true
    or_true true = refl
    or_true false = refl

    by : (b : Bool) → b ≡ p x → (b || list_any p xs) ≡ true → (list_any p xs ≡ true → list_any q xs ≡ true) → (q x || list_any q xs) ≡ true
    by true s h later = ap (λ b. b || list_any q xs) (f x (sym s))
    by false s h later = ap (λ b. q x || b) (later h) ∙ or_true (q x)

-- an element that passes, and that stands in the list
abbrev pub Witness : {X : Type 0} → (X → Bool) → List X → Type 0
Witness {X} p xs = (x : X) × (p x ≡ true) × ((q : X → Bool) → q x ≡ true → list_any q xs ≡ true)

pub any_witness : {X : Type 0} (p : X → Bool) (xs : List X) → list_any p xs ≡ true → Witness p xs
any_witness p [] h = absurd (cc)
any_witness {X} p (x ∷ xs) h = by (p x) refl h (any_witness p xs)
  where
    or_true : (b : Bool) → (b || true) ≡ true
    or_true true = refl
    or_true false = refl

    by : (b : Bool) → b ≡ p x → (b || list_any p xs) ≡ true → (list_any p xs ≡ true → Witness p xs) → Witness p (x ∷ xs)
    by true s h later = (x, sym s, λ q is. ap (λ b. b || list_any q xs) is)
    by false s h later =
        let found = later h in
        (found.0, found.1, λ q is. ap (λ b. q x || b) (found.2 q is) ∙ or_true (q x))

pub filter_same : {X : Type 0} (p q : X → Bool) (xs : List X) → ((x : X) → p x ≡ q x) → filter p xs ≡ filter q xs
filter_same p q [] same = refl
filter_same p q (x ∷ xs) same = ap₂ (λ b rest. cond b (x ∷ rest) rest) (same x) (filter_same p q xs same)

-- ---- sets

pub has_filter : (p : ℕ → Bool) (xs : List ℕ) (d : ℕ) → has (filter p xs) d ≡ (p d && has xs d)
has_filter p [] d = by (p d)
  where
    by : (b : Bool) → false ≡ (b && false)
    by true = refl
    by false = refl
has_filter p (x ∷ xs) d = by (p x) (x == d) refl refl (has_filter p xs d)
  where
    by : (b same : Bool) → b ≡ p x → same ≡ (x == d) → has (filter p xs) d ≡ (p d && has xs d)
        → has (cond b (x ∷ filter p xs) (filter p xs)) d ≡ (p d && (same || has xs d))
    by true true s e later = ap (λ v. v || has (filter p xs) d) (sym e) ∙ sym (ap (λ v. v && true) (ap p (sym (eqb-true x d (sym e))) ∙ sym s))
    by true false s e later = ap (λ v. v || has (filter p xs) d) (sym e) ∙ later
    by false true s e later = later ∙ none (p d) (has xs d) (ap p (sym (eqb-true x d (sym e))) ∙ sym s)
      where
        none : (u v : Bool) → u ≡ false → (u && v) ≡ (u && true)
        none u v h = ap (λ w. w && v) h ∙ sym (ap (λ w. w && true) h)
    by false false s e later = later

above_filter : (a : ℕ) (p : ℕ → Bool) (xs : List ℕ) → AreAbove a xs → AreAbove a (filter p xs)
above_filter a p [] h = tt
above_filter a p (x ∷ xs) h = by (p x) (above_filter a p xs h.1)
  where
    by : (b : Bool) → AreAbove a (filter p xs) → AreAbove a (cond b (x ∷ filter p xs) (filter p xs))
    by true rest = (h.0, rest)
    by false rest = rest

pub increasing_filter : (p : ℕ → Bool) (xs : List ℕ) → IsIncreasing xs → IsIncreasing (filter p xs)
increasing_filter p [] h = tt
increasing_filter p (x ∷ xs) h = by (p x) (increasing_filter p xs h.1)
  where
    by : (b : Bool) → IsIncreasing (filter p xs) → IsIncreasing (cond b (x ∷ filter p xs) (filter p xs))
    by true rest = (above_filter x p xs h.0, rest)
    by false rest = rest
