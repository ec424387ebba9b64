-- Two lists that are gone over side by side.
use Rattle.std.proofs.Common.{◌≡◌, ℕ, zero, suc, ◌+◌, ◌/◌, ◌<◌, ◌≤◌, ◌⊎◌, inl, inr, min, Bool, true, false, cond, List, [], ◌∷◌, length, get_or, flat_map, filter, refl, sym, ap, subst, ◌∙◌, arith}
use Rattle.std.proofs.lemmas.Bool.{cases_lt}
use Rattle.std.proofs.lemmas.Bool.Decides.{nat_tests}
use Rattle.search_base.specs.PairCost.{distance}
use Rattle.search_base.proofs.Members.{Among, Among-map, Among-mapped, Among-filter, Among-filtered, Among-flat_map, Among-flat_mapped}
use Rattle.sorted_pages.specs.Entries.{IsIncreasing}
use Rattle.sorted_pages.proofs.OneLemmas.{increasing-next}
use Rattle.postings.proofs.ListLemmas.{rising}
use Rattle.near_words.specs.EntryCost.{is_apart, distances_to, cut_distance}
use Rattle.near_words.proofs.CutLemmas.{cut_is}

-- the distance cut at 8, and 8 where there is none
abbrev pub near : ℕ → ℕ → ℕ
near x y = cond (is_apart x y) (min 8 (distance x y)) 8

between : (x y z : ℕ) → x ≤ y → y ≤ z → x / 65536 ≡ z / 65536 → x / 65536 ≡ y / 65536
between x y z low high same = omega arith

-- what is farther on is no nearer
near_behind : (x y z : ℕ) → x < y → y ≤ z → near x y ≤ near x z
near_behind x y z low high = grind (arith, nat_tests, between x y z)

near_before : (x y z : ℕ) → y < x → x ≤ z → near x y ≤ near z y
near_before x y z low high = grind (arith, nat_tests, between y x z)

near_itself : (x y : ℕ) → x ≡ y → near x y ≡ 8
near_itself x y same = grind (arith, nat_tests)

-- k is at most each distance
abbrev pub AtMostEach : ℕ → List ℕ → List ℕ → Type 0
AtMostEach k L R = (p q : ℕ) → p < length L → q < length R → k ≤ near (get_or L p 0) (get_or R q 0)

-- the least distance of those pairs one of which is passed
pub record Walked (L R : List ℕ) (i j least : ℕ) : Type 0 where
  pub small : least ≤ 8
  pub left : (p q : ℕ) → p < i → p < length L → q < length R → least ≤ near (get_or L p 0) (get_or R q 0)
  pub right : (p q : ℕ) → q < j → p < length L → q < length R → least ≤ near (get_or L p 0) (get_or R q 0)
  pub greatest : (k : ℕ) → k ≤ 8 → AtMostEach k L R → k ≤ least

module _ (L R : List ℕ) (i j least : ℕ) (up : IsIncreasing L) (rise : IsIncreasing R) (inside : i < length L) (within : j < length R) (walked : Walked L R i j least) where
  pub walk_right : get_or R j 0 < get_or L i 0 → Walked L R i (j + 1) (min least (near (get_or L i 0) (get_or R j 0)))
  walk_right less = record {
    small = let h = walked.small in omega arith;
    left = λ p q h a b. let old = walked.left p q h a b in omega arith;
    right = λ p q h a b. elim (cases_lt q j) [
      | inl low ↦ let old = walked.right p q low a b in omega arith
      | inr high ↦ elim (cases_lt p i) [
        | inl low ↦ let old = walked.left p q low a b in omega arith
        | inr far ↦
            let here : q ≡ j = omega arith in
            let step : near (get_or L i 0) (get_or R j 0) ≤ near (get_or L p 0) (get_or R j 0) = near_before (get_or L i 0) (get_or R j 0) (get_or L p 0) less (rising L up i p far a) in
            subst (λ (n : ℕ). min least (near (get_or L i 0) (get_or R j 0)) ≤ near (get_or L p 0) (get_or R n 0)) (sym here) (omega (arith, step))
      ]
    ];
    greatest = λ k small each. let old = walked.greatest k small each in let new = each i j inside within in omega arith;
  }

  pub walk_left : (next d : ℕ) → (next ≡ j × (get_or L i 0 < get_or R j 0)) ⊎ (next ≡ j + 1 × (get_or L i 0 ≡ get_or R j 0))
      → (next < length R → d ≡ near (get_or L i 0) (get_or R next 0)) → (length R ≤ next → d ≡ 8) → Walked L R (i + 1) j (min least d)
  walk_left next d reach some none = record {
    small = let h = walked.small in omega arith;
    left = λ p q h a b. elim (cases_lt p i) [
      | inl low ↦ let old = walked.left p q low a b in omega arith
      | inr far ↦ elim (cases_lt q j) [
        | inl low ↦ let old = walked.right p q low a b in omega arith
        | inr high ↦
            let here : p ≡ i = omega arith in
            subst (λ (n : ℕ). min least d ≤ near (get_or L n 0) (get_or R q 0)) (sym here) (new q high b reach)
      ]
    ];
    right = λ p q h a b. let old = walked.right p q h a b in omega arith;
    greatest = λ k small each. let old = walked.greatest k small each in elim (cases_lt next (length R)) [
      | inl low ↦ let new = each i next inside low in omega (arith, some low)
      | inr high ↦ omega (arith, none high)
    ];
  }
    where
      new : (q : ℕ) → j ≤ q → q < length R → (next ≡ j × (get_or L i 0 < get_or R j 0)) ⊎ (next ≡ j + 1 × (get_or L i 0 ≡ get_or R j 0))
          → min least d ≤ near (get_or L i 0) (get_or R q 0)
      new q high b (inl (is, less)) =
          let told : d ≡ near (get_or L i 0) (get_or R j 0) = subst (λ (n : ℕ). n < length R → d ≡ near (get_or L i 0) (get_or R n 0)) is some within in
          let step = near_behind (get_or L i 0) (get_or R j 0) (get_or R q 0) less (rising R rise j q high b) in
          omega (arith, told, step)
      new q high b (inr (is, same)) = elim (cases_lt j q) [
        | inl far ↦
            let at : j + 1 < length R = omega arith in
            let told : d ≡ near (get_or L i 0) (get_or R (j + 1) 0) = subst (λ (n : ℕ). n < length R → d ≡ near (get_or L i 0) (get_or R n 0)) is some at in
            let next_up = increasing-next R j at rise in
            let less : get_or L i 0 < get_or R (j + 1) 0 = omega (arith, next_up, same) in
            let step = near_behind (get_or L i 0) (get_or R (j + 1) 0) (get_or R q 0) less (rising R rise (j + 1) q (omega arith) b) in
            omega (arith, told, step)
        | inr near_by ↦
            let one : q ≡ j = omega arith in
            let equal : near (get_or L i 0) (get_or R q 0) ≡ 8 = near_itself _ _ (same ∙ ap (λ n. get_or R n 0) (sym one)) in
            let h = walked.small in omega (arith, equal)
      ]

-- ---- the end
place_of : (xs : List ℕ) (x : ℕ) → Among xs x → (k : ℕ) × (k < length xs) × (get_or xs k 0 ≡ x)
place_of [] x h = absurd h
place_of (y ∷ ys) x (inl same) = (0, omega arith, same)
place_of (y ∷ ys) x (inr later) = let found = place_of ys x later in (suc found.0, (let within : found.0 < length ys = found.1 in omega arith), found.2)

among_at : (xs : List ℕ) (k : ℕ) → k < length xs → Among xs (get_or xs k 0)
among_at [] k h = absurd (omega arith)
among_at (x ∷ xs) zero h = inl refl
among_at (x ∷ xs) (suc k) h = inr (among_at xs k (omega arith))

pub walk_end : (L R : List ℕ) (i j least : ℕ) → Walked L R i j least → (length L ≤ i) ⊎ (length R ≤ j) → least ≡ cut_distance L R
walk_end L R i j least walked ended = cut_is (flat_map (distances_to R) L) least low walked.small high
  where
    each : AtMostEach least L R
    each p q a b = elim ended [
      | inl over ↦ walked.left p q (omega arith) a b
      | inr over ↦ walked.right p q (omega arith) a b
    ]

    apart_near : (x y : ℕ) → is_apart x y ≡ true → near x y ≤ distance x y
    apart_near x y apart = grind (arith, nat_tests)

    low : (m : ℕ) → Among (flat_map (distances_to R) L) m → least ≤ m
    low m h =
        let from = Among-flat_map (distances_to R) L m h in
        let to = Among-map (distance from.0) (filter (is_apart from.0) R) m from.2 in
        let told = Among-filter (is_apart from.0) R to.0 to.1 in
        let p = place_of L from.0 from.1 in
        let q = place_of R to.0 told.0 in
        let bound = each p.0 q.0 p.1 q.1 in
        let bound' : least ≤ near from.0 to.0 = subst (λ (n : ℕ). least ≤ near from.0 n) q.2 (subst (λ (n : ℕ). least ≤ near n (get_or R q.0 0)) p.2 bound) in
        omega (arith, bound', apart_near from.0 to.0 told.1, to.2)

    high : (k : ℕ) → k ≤ 8 → ((m : ℕ) → Among (flat_map (distances_to R) L) m → k ≤ m) → k ≤ least
    high k small below = walked.greatest k small (λ p q a b.
        let x = get_or L p 0 in
        let y = get_or R q 0 in
        by x y small (λ apart. below (distance x y) (Among-flat_mapped (distances_to R) L x (distance x y) (among_at L p a) (Among-mapped (distance x) (filter (is_apart x) R) y (Among-filtered (is_apart x) R y (among_at R q b) apart)))) (is_apart x y) refl)
      where
        by : (x y : ℕ) → k ≤ 8 → (is_apart x y ≡ true → k ≤ distance x y) → (b : Bool) → is_apart x y ≡ b → k ≤ cond b (min 8 (distance x y)) 8
        by x y small h true is = let d = h is in omega arith
        by x y small h false is = small
