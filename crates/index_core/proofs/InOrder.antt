-- Hits among documents that all cost the same and stand in the order of their internal ids.
use Rattle.std.proofs.Common.{◌≡◌, ℕ, zero, suc, ◌≤◌, ◌==◌, Bool, true, false, cond, List, [], ◌∷◌, ◌++◌, length, filter, take, drop, refl, sym, ap, ap₂, ◌∙◌, arith}
use Rattle.std.specs.Prelude.{nat_lt}
use Rattle.std.specs.List.{AllByRecursion, flat_map}
use Rattle.std.proofs.lemmas.Bool.{cond-true, cond-false, eq-eqb, ne_eqb, eqb-true, eqb-false, lt-ltb, le-ltb}
use Rattle.search_base.specs.declared.cost_key.CostKey.{CostKey}
use Rattle.search_base.specs.CostOrder.{before}
use Rattle.search_base.specs.Hits.{Match, costs_before, numbers}
use Rattle.search_base.specs.Hits as base
use Rattle.search_base.proofs.CostOrderLemmas.{before-strict}
use Rattle.rule_buckets.specs.Matches.{hits_of}

abbrev stands_before : Match → Match → Bool
stands_before = base.stands_before before (λ m. m.costs) (λ m. m.id)

abbrev place_among : List Match → Match → ℕ
place_among = base.place_among before (λ m. m.costs) (λ m. m.id)

-- a document of the same costs whose internal id is no less
abbrev IsBehind : List CostKey → ℕ → Match → Type 0
IsBehind costs low m = (low ≤ m.id) × (m.costs ≡ costs)

-- each costs the same, and the internal ids rise
abbrev pub RiseAlike : List CostKey → ℕ → List Match → Type 0
RiseAlike costs low [] = Unit {0}
RiseAlike costs low (m ∷ ms) = IsBehind costs low m × RiseAlike costs (suc m.id) ms

same-costs : (xs : List CostKey) (b : Bool) → costs_before before xs xs b ≡ b
same-costs [] b = refl
same-costs (x ∷ xs) b = cond-false _ _ _ (before-strict.irreflexive x) ∙ cond-false _ _ _ (before-strict.irreflexive x) ∙ same-costs xs b

stands-same : (costs : List CostKey) (a b : Match) → a.costs ≡ costs → b.costs ≡ costs → stands_before a b ≡ nat_lt a.id b.id
stands-same costs a b ea eb = ap₂ (λ v w. costs_before before v w (nat_lt a.id b.id)) ea eb ∙ same-costs costs (nat_lt a.id b.id)

all-behind : (costs : List CostKey) (low from : ℕ) (ms : List Match) → low ≤ from → RiseAlike costs from ms → AllByRecursion (IsBehind costs low) ms
all-behind costs low from [] le h = tt
all-behind costs low from (m ∷ ms) le h = ((omega (arith, le, h.0.0), h.0.1), all-behind costs low (suc m.id) ms (omega (arith, le, h.0.0)) h.1)

none-before : (costs : List CostKey) (x : Match) (xs : List Match) → x.costs ≡ costs → AllByRecursion (IsBehind costs (suc x.id)) xs → filter (λ o. stands_before o x) xs ≡ []
none-before costs x [] is h = refl
none-before costs x (y ∷ ys) is h = cond-false _ _ _ (stands-same costs y x h.0.1 is ∙ le-ltb y.id x.id (omega (arith, h.0.0))) ∙ none-before costs x ys is h.1

place-head : (costs : List CostKey) (x : Match) (xs : List Match) → x.costs ≡ costs → AllByRecursion (IsBehind costs (suc x.id)) xs → place_among (x ∷ xs) x ≡ 0
place-head costs x xs is h = ap length (cond-false _ _ _ (stands-same costs x x is is ∙ le-ltb x.id x.id (omega arith)) ∙ none-before costs x xs is h)

place-later : (costs : List CostKey) (x y : Match) (xs : List Match) → x.costs ≡ costs → IsBehind costs (suc x.id) y → place_among (x ∷ xs) y ≡ suc (place_among xs y)
place-later costs x y xs is h = ap length (cond-true _ _ _ (stands-same costs x y is h.1 ∙ lt-ltb x.id y.id (omega (arith, h.0))))

none-at-head : (p : Match → Bool) (P : Match → Type 0) → ((y : Match) → P y → p y ≡ false) → (ys : List Match) → AllByRecursion P ys → filter p ys ≡ []
none-at-head p P h [] all = refl
none-at-head p P h (y ∷ ys) all = cond-false _ _ _ (h y all.0) ∙ none-at-head p P h ys all.1

same-filter : (p q : Match → Bool) (P : Match → Type 0) → ((y : Match) → P y → p y ≡ q y) → (ys : List Match) → AllByRecursion P ys → filter p ys ≡ filter q ys
same-filter p q P h [] all = refl
same-filter p q P h (y ∷ ys) all = ap (λ b. cond b (y ∷ filter p ys) (filter p ys)) (h y all.0) ∙ ap (λ v. cond (q y) (y ∷ v) v) (same-filter p q P h ys all.1)

next-same : (a b : ℕ) → (suc a == suc b) ≡ (a == b)
next-same a b = by (a == b) refl
  where
    by : (t : Bool) → (a == b) ≡ t → (suc a == suc b) ≡ (a == b)
    by true e = eq-eqb (suc a) (suc b) (let same = eqb-true a b e in omega arith) ∙ sym e
    by false e = ne_eqb (suc a) (suc b) (λ same. eqb-false a b e (omega arith)) ∙ sym e

at-place : (costs : List CostKey) (low : ℕ) (xs : List Match) (k : ℕ) → RiseAlike costs low xs → filter (λ m. place_among xs m == k) xs ≡ take 1 (drop k xs)
at-place costs low [] zero h = refl
at-place costs low [] (suc k) h = refl
at-place costs low (x ∷ xs) zero h =
    let behind = all-behind costs (suc x.id) (suc x.id) xs (omega arith) h.1 in
    let rest = filter (λ m. place_among (x ∷ xs) m == 0) xs in
    ap (λ n. cond (n == 0) (x ∷ rest) rest) (place-head costs x xs h.0.1 behind)
    ∙ ap (λ v. x ∷ v) (none-at-head (λ m. place_among (x ∷ xs) m == 0) (IsBehind costs (suc x.id)) (λ y s. ap (λ n. n == 0) (place-later costs x y xs h.0.1 s) ∙ ne_eqb (suc (place_among xs y)) 0 (λ e. absurd (omega arith))) xs behind)
at-place costs low (x ∷ xs) (suc k) h =
    let behind = all-behind costs (suc x.id) (suc x.id) xs (omega arith) h.1 in
    let rest = filter (λ m. place_among (x ∷ xs) m == suc k) xs in
    ap (λ n. cond (n == suc k) (x ∷ rest) rest) (place-head costs x xs h.0.1 behind) ∙ cond-false (0 == suc k) (x ∷ rest) rest (ne_eqb 0 (suc k) (λ e. absurd (omega arith)))
    ∙ same-filter (λ m. place_among (x ∷ xs) m == suc k) (λ m. place_among xs m == k) (IsBehind costs (suc x.id)) (λ y s. ap (λ n. n == suc k) (place-later costs x y xs h.0.1 s) ∙ next-same (place_among xs y) k) xs behind
    ∙ at-place costs (suc x.id) xs k h.1

one-more : (xs : List Match) (k n : ℕ) → take 1 (drop k xs) ++ take n (drop (suc k) xs) ≡ take (suc n) (drop k xs)
one-more [] zero zero = refl
one-more [] zero (suc n) = refl
one-more [] (suc k) zero = refl
one-more [] (suc k) (suc n) = refl
one-more (x ∷ xs) zero n = refl
one-more (x ∷ xs) (suc k) n = one-more xs k n

-- the hits are a part of the documents as they stand
pub part-of : (costs : List CostKey) (ms : List Match) (first n : ℕ) → RiseAlike costs 0 ms → hits_of ms first n ≡ take n (drop first ms)
part-of costs ms first zero rise = refl
part-of costs ms first (suc n) rise =
    ap (λ v. v ++ flat_map (base.hit_at before (λ m. m.costs) (λ m. m.id) ms) (numbers (suc first) n)) (at-place costs 0 ms first rise)
    ∙ ap (λ v. take 1 (drop first ms) ++ v) (part-of costs ms (suc first) n rise) ∙ one-more ms first n
