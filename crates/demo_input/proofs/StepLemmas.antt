-- What is left of the demo after a step.
use Rattle.std.proofs.Common.{◌≡◌, ◌⊎◌, inl, inr, ℕ, suc, ◌+◌, ◌-◌, ◌*◌, ◌<◌, ◌≤◌, min, [], ◌∷◌, ◌++◌, true, false, length, get_or, drop, refl, sym, ap, ◌∙◌, arith}
use Rattle.std.specs.Int.{div_ceil}
use Rattle.std.proofs.lemmas.Bool.{cases_lt}
use Rattle.std.proofs.lemmas.List.{drop_more}
use lib.ListN.{drop_of_length-le}
use Rattle.demo_input.specs.Draws.{draw}
use Rattle.demo_input.specs.Steps.{settings_step, batch, batches, queries, search_step, searches, steps, steps_left}

pub nothing_sent : (count seed : ℕ) → steps_left false 0 count seed 0 ≡ steps count seed
unfolding steps steps_left
nothing_sent count seed =
    let e : count - 0 ≡ count = omega arith in
    ap (λ n. settings_step ∷ (batches (div_ceil n 1000) 0 count seed ++ searches 0 queries)) e

pub settings_sent : (made count x done : ℕ) → steps_left false made count x done ≡ settings_step ∷ steps_left true made count x done
unfolding steps_left
settings_sent made count x done = refl

-- ---- batches

no_batches : (n made count x : ℕ) → n ≡ 0 → batches n made count x ≡ []
unfolding batches
no_batches n made count x e = ap (λ k. batches k made count x) e

some_batches : (left : ℕ) → 0 < left → div_ceil left 1000 ≡ suc (div_ceil (left - 1000) 1000)
some_batches left h = omega arith

first_batch : (left made count x : ℕ) → 0 < left → left ≡ count - made
    → batches (div_ceil left 1000) made count x
    ≡ batch (min 1000 left) made x ∷ batches (div_ceil (left - 1000) 1000) (made + 1000) count (draw 6000 x)
unfolding batches
first_batch left made count x h e =
    ap (λ n. batches n made count x) (some_batches left h)
    ∙ ap (λ k. batch (min 1000 k) made x ∷ batches (div_ceil (left - 1000) 1000) (made + 1000) count (draw 6000 x)) (sym e)

after_batch : (left made count x size : ℕ) → size ≡ min 1000 left → left ≡ count - made → 0 < left
    → batches (div_ceil (left - 1000) 1000) (made + 1000) count (draw 6000 x)
    ≡ batches (div_ceil (count - (made + size)) 1000) (made + size) count (draw (6 * size) x)
after_batch left made count x size cut is_left some = by (cases_lt left 1000)
  where
    by : (left < 1000) ⊎ (1000 ≤ left)
        → batches (div_ceil (left - 1000) 1000) (made + 1000) count (draw 6000 x)
        ≡ batches (div_ceil (count - (made + size)) 1000) (made + size) count (draw (6 * size) x)
    by (inl few) =
        let none : left - 1000 ≡ 0 = omega arith in
        let no_more : count - (made + size) ≡ 0 = omega arith in
        no_batches _ _ _ _ (ap (λ n. div_ceil n 1000) none) ∙ sym (no_batches _ _ _ _ (ap (λ n. div_ceil n 1000) no_more))
    by (inr many) =
        let whole : size ≡ 1000 = omega arith in
        let more : left - 1000 ≡ count - (made + 1000) = omega arith in
        ap (λ n. batches (div_ceil n 1000) (made + 1000) count (draw 6000 x)) more
        ∙ ap (λ n. batches (div_ceil (count - (made + n)) 1000) (made + n) count (draw (6 * n) x)) (sym whole)

pub batch_sent : (made count x done size : ℕ) → made < count → size ≡ min 1000 (count - made)
    → steps_left true made count x done ≡ batch size made x ∷ steps_left true (made + size) count (draw (6 * size) x) done
unfolding steps_left
batch_sent made count x done size some cut =
    let left = count - made in
    let is_some : 0 < count - made = omega arith in
    ap (λ v. v ++ searches done (drop done queries)) (first_batch left made count x is_some refl)
    ∙ ap (λ n. batch n made x ∷ (batches (div_ceil (left - 1000) 1000) (made + 1000) count (draw 6000 x) ++ searches done (drop done queries))) (sym cut)
    ∙ ap (λ v. batch size made x ∷ (v ++ searches done (drop done queries))) (after_batch left made count x size cut refl is_some)

-- ---- searches

all_made : (made count x done : ℕ) → count ≤ made → steps_left true made count x done ≡ searches done (drop done queries)
unfolding steps_left
all_made made count x done all =
    let none : count - made ≡ 0 = omega arith in
    ap (λ v. v ++ searches done (drop done queries)) (no_batches _ made count x (ap (λ n. div_ceil n 1000) none))

ten_queries : length queries ≡ 10
unfolding queries
ten_queries = refl

pub search_sent : (made count x done : ℕ) → count ≤ made → done < 10
    → steps_left true made count x done ≡ search_step (done + 1) (get_or queries done []) ∷ steps_left true made count x (done + 1)
search_sent made count x done all more =
    let within : done < length queries = omega (arith, ten_queries) in
    all_made made count x done all
    ∙ ap (searches done) (drop_more queries done [] within)
    ∙ ap (λ v. search_step (done + 1) (get_or queries done []) ∷ v) (sym (all_made made count x (done + 1) all))

pub none_left : (made count x done : ℕ) → count ≤ made → 10 ≤ done → steps_left true made count x done ≡ []
none_left made count x done all over =
    let past : length queries ≤ done = omega (arith, ten_queries) in
    all_made made count x done all ∙ ap (searches done) (drop_of_length-le queries past)
