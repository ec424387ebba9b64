-- Only places near each other count, and each two of them are looked at once.
use Rattle.std.proofs.Common.{◌≡◌, ℕ, suc, ◌+◌, ◌-◌, ◌<◌, ◌≤◌, min, Bool, true, false, ◌&&◌, ◌||◌, List, [], ◌∷◌, length, drop, get_or, Option, Some, None, cond, refl, sym, ap, ap₂, ◌∙◌, subst, arith}
use Rattle.std.specs.Prelude.{nat_lt}
use Rattle.std.specs.Option.{unwrap_or}
use Rattle.std.specs.List.{AllByRecursion}
use Rattle.std.specs.Str.{bytes_eq}
use Rattle.std.proofs.lemmas.Bool.Decides.{nat_tests}
use Rattle.std.proofs.lemmas.List.{drop_more, drop_all}
use Rattle.search_base.specs.declared.document.Place.{Place}
use Rattle.search_base.specs.Least.{lesser, least, least_by}
use Rattle.search_base.specs.Occurrence.{is_asked}
use Rattle.search_base.specs.PairCost.{distance, stands_apart, distances}
use Rattle.search_base.proofs.LeastLemmas.{lesser-none, lesser-assoc, least_by-same, least_by-lesser, least_by-none}
use Rattle.plain_rank.specs.Distances.{distance_if, distance_from}
use Rattle.plain_rank.specs.Near.{StandsBefore, InOrder, is_beyond, near_pair, near_both, least_near}
use Rattle.plain_rank.proofs.DistanceLemmas.{least-distances}
use Rattle.plain_rank.proofs.LeastSteps.{least_by-if}

-- ---- order
onward : (a b c : Place) → StandsBefore a b → StandsBefore b c → StandsBefore a c
onward a b c before next = grind (arith, nat_tests)

all-onward : (a b : Place) (places : List Place) → StandsBefore a b → AllByRecursion (StandsBefore b) places → AllByRecursion (StandsBefore a) places
all-onward a b [] before all = tt
all-onward a b (c ∷ places) before all = (onward a b c before all.0, all-onward a b places before all.1)

pub order-cons : (a b : Place) (places : List Place) → StandsBefore a b → InOrder (b ∷ places) → InOrder (a ∷ (b ∷ places))
order-cons a b places before order = ((before, all-onward a b places before order.0), order)

pub order-step : (places : List Place) (i : ℕ) (a b : Place) → i + 1 < length places → a ≡ get_or places i a → b ≡ get_or places (i + 1) b → StandsBefore a b → InOrder (drop (i + 1) places) → InOrder (drop i places)
order-step places i a b lt e f before order =
    let rest = drop ((i + 1) + 1) places in
    let next : drop (i + 1) places ≡ b ∷ rest = drop_more places (i + 1) b lt ∙ ap (λ (p : Place). p ∷ rest) (sym f) in
    let here : drop i places ≡ a ∷ (b ∷ rest) = drop_more places i a (omega arith) ∙ ap₂ (λ (p : Place) ps. p ∷ ps) (sym e) next in
    subst InOrder (sym here) (order-cons a b rest before (subst InOrder next order))

pub order-last : (places : List Place) → InOrder (drop (length places - 1) places)
order-last [] = tt
order-last (a ∷ []) = (tt, tt)
order-last (a ∷ (b ∷ places)) =
    let back : length (a ∷ (b ∷ places)) - 1 ≡ suc (length (b ∷ places) - 1) = omega arith in
    subst (λ (n : ℕ). InOrder (drop n (a ∷ (b ∷ places)))) (sym back) (order-last (b ∷ places))

pub order-rest : (places : List Place) (i : ℕ) (a : Place) → i < length places → a ≡ get_or places i a → InOrder (drop i places) → AllByRecursion (StandsBefore a) (drop (i + 1) places) × InOrder (drop (i + 1) places)
order-rest places i a lt e order =
    let here : drop i places ≡ a ∷ drop (i + 1) places = drop_more places i a lt ∙ ap (λ (p : Place). p ∷ drop (i + 1) places) (sym e) in
    let both = subst InOrder here order in (both.0, both.1)

-- ---- places out of reach
both-none : (b c : Bool) (n : ℕ) → b ≡ false → cond (b && c) (Some n) None ≡ None
both-none true c n h = absurd (cc)
both-none false c n h = refl

not_near : (a b : Place) → is_beyond a b ≡ true → (stands_apart a b && nat_lt (distance a.position b.position) 8) ≡ false
not_near a b far = grind (arith, nat_tests)

not_near_back : (a b : Place) → is_beyond a b ≡ true → (stands_apart b a && nat_lt (distance b.position a.position) 8) ≡ false
not_near_back a b far = grind (arith, nat_tests)

beyond-onward : (a b c : Place) → is_beyond a b ≡ true → StandsBefore b c → is_beyond a c ≡ true
beyond-onward a b c far before = grind (arith, nat_tests)

module _ (left : List ℕ) (prefix : Bool) (right : List ℕ) where
  abbrev pair : Place → Place → Option ℕ
  pair = near_pair left prefix right

  far-none : (a b : Place) → is_beyond a b ≡ true → near_both left prefix right a b ≡ None
  far-none a b far = ap₂ lesser (both-none _ _ _ (not_near a b far)) (both-none _ _ _ (not_near_back a b far))

  all-far : (a b : Place) (places : List Place) → is_beyond a b ≡ true → AllByRecursion (StandsBefore b) places → least_by (near_both left prefix right a) places ≡ None
  all-far a b [] far all = refl
  all-far a b (c ∷ places) far all = ap₂ lesser (far-none a c (beyond-onward a b c far all.0)) (all-far a b places far all.1)

  pub beyond-none : (place : Place) (later : List Place) (i : ℕ) (next : Place) → i < length later → next ≡ get_or later i next → is_beyond place next ≡ true → InOrder (drop i later)
      → least_by (near_both left prefix right place) (drop i later) ≡ None
  beyond-none place later i next lt e far order =
      let rest = order-rest later i next lt e order in
      ap (least_by (near_both left prefix right place)) (drop_more later i next lt ∙ ap (λ (p : Place). p ∷ drop (i + 1) later) (sym e))
      ∙ ap₂ lesser (far-none place next far) (all-far place next (drop (i + 1) later) far rest.0)

  -- ---- a place with neither word
  no_word : (b c d : Bool) (n : ℕ) → c ≡ false → cond (b && (c && d)) (Some n) None ≡ None
  no_word true true d n h = absurd (cc)
  no_word true false d n h = refl
  no_word false c d n h = refl

  no_word_back : (b c d : Bool) (n : ℕ) → d ≡ false → cond (b && (c && d)) (Some n) None ≡ None
  no_word_back true true true n h = absurd (cc)
  no_word_back true true false n h = refl
  no_word_back true false d n h = refl
  no_word_back false c d n h = refl

  neither-none : (place : Place) (later : List Place) → bytes_eq left place.word ≡ false → is_asked prefix right place.word ≡ false → least_by (near_both left prefix right place) later ≡ None
  neither-none place later l r =
      least_by-same (near_both left prefix right place) (λ other. None) (λ other. ap₂ lesser (no_word _ _ _ _ l) (no_word_back _ _ _ _ r)) later ∙ least_by-none later

  or_left : (a b : Bool) → (a || b) ≡ false → a ≡ false
  or_left true b h = absurd (cc)
  or_left false b h = refl

  or_right : (a b : Bool) → (a || b) ≡ false → b ≡ false
  or_right true b h = absurd (cc)
  or_right false b h = h

  pub not_either : (place : Place) (later : List Place) → (bytes_eq left place.word || is_asked prefix right place.word) ≡ false → least_by (near_both left prefix right place) later ≡ None
  not_either place later h = neither-none place later (or_left _ _ h) (or_right (bytes_eq left place.word) (is_asked prefix right place.word) h)

  -- ---- each two places once
  itself : (a : Place) → pair a a ≡ None
  itself a = both-none _ _ _ (let same : stands_apart a a ≡ false = grind (arith, nat_tests) in ap (λ b. b && nat_lt (distance a.position a.position) 8) same)

  abbrev square : List Place → Option ℕ
  square places = least_by (λ a. least_by (pair a) places) places

  square-near : (places : List Place) → square places ≡ least_near left prefix right places
  square-near [] = refl
  square-near (p ∷ places) =
      ap₂ lesser (ap (λ o. lesser o (least_by (pair p) places)) (itself p)) (least_by-lesser (λ a. pair a p) (λ a. least_by (pair a) places) places)
      ∙ sym (lesser-assoc (least_by (pair p) places) (least_by (λ a. pair a p) places) (square places))
      ∙ ap₂ lesser (sym (least_by-lesser (pair p) (λ a. pair a p) places)) (square-near places)

  -- ---- distances are cut at 8
  abbrev cut : Option ℕ → ℕ
  cut o = min 8 (unwrap_or o 8)

  cut-lesser : (a b : Option ℕ) → cut (lesser a b) ≡ min (cut a) (cut b)
  cut-lesser None None = refl
  cut-lesser None (Some n) = omega arith
  cut-lesser (Some m) None = omega arith
  cut-lesser (Some m) (Some n) = omega arith

  cut-least : (f g : Place → Option ℕ) → ((p : Place) → cut (f p) ≡ cut (g p)) → (places : List Place) → cut (least_by f places) ≡ cut (least_by g places)
  cut-least f g same [] = refl
  cut-least f g same (p ∷ places) =
      cut-lesser (f p) (least_by f places) ∙ ap₂ min (same p) (cut-least f g same places) ∙ sym (cut-lesser (g p) (least_by g places))

  -- a pair with its whole distance
  abbrev whole : Place → Place → Option ℕ
  whole a b = cond (bytes_eq left a.word) (distance_if prefix right a b) None

  cut-one : (apart near l r : Bool) (d : ℕ) → nat_lt d 8 ≡ near → cut (cond ((apart && near) && (l && r)) (Some d) None) ≡ cut (cond l (cond (apart && r) (Some d) None) None)
  cut-one true true true true d h = refl
  cut-one true true true false d h = refl
  cut-one true true false r d h = refl
  cut-one true false true true d h = let far : 8 ≤ d = grind (arith, nat_tests) in omega arith
  cut-one true false true false d h = refl
  cut-one true false false r d h = refl
  cut-one false near true r d h = refl
  cut-one false near false r d h = refl

  pub near-is_least : (places : List Place) → min 8 (unwrap_or (least_near left prefix right places) 8) ≡ min 8 (unwrap_or (least (distances places (bytes_eq left) (is_asked prefix right))) 8)
  near-is_least places =
      ap cut (sym (square-near places))
      ∙ cut-least (λ a. least_by (pair a) places) (λ a. least_by (whole a) places)
      (λ a. cut-least (pair a) (whole a) (λ b. cut-one (stands_apart a b) (nat_lt (distance a.position b.position) 8) (bytes_eq left a.word) (is_asked prefix right b.word) (distance a.position b.position) refl) places) places
      ∙ ap cut (least_by-same (λ a. least_by (whole a) places) (distance_from places left prefix right) (λ a. sym (least_by-if (bytes_eq left a.word) (distance_if prefix right a) places)) places
      ∙ sym (least-distances places left prefix right))

-- one place and those behind it
pub near-step : (left : List ℕ) (prefix : Bool) (right : List ℕ) (places : List Place) (i : ℕ) (place : Place) (before all here : Option ℕ) → i < length places → place ≡ get_or places i place
    → here ≡ least_by (near_both left prefix right place) (drop (i + 1) places)
    → lesser before (least_near left prefix right (drop i places)) ≡ all
    → lesser (lesser before here) (least_near left prefix right (drop (i + 1) places)) ≡ all
near-step left prefix right places i place before all here lt e is h =
    let rest = drop (i + 1) places in
    ap (λ o. lesser (lesser before o) (least_near left prefix right rest)) is
    ∙ lesser-assoc before (least_by (near_both left prefix right place) rest) (least_near left prefix right rest)
    ∙ ap (λ l. lesser before (least_near left prefix right l)) (ap (λ p. p ∷ rest) e ∙ sym (drop_more places i place lt)) ∙ h

pub near-end : (left : List ℕ) (prefix : Bool) (right : List ℕ) (places : List Place) (i : ℕ) (before all : Option ℕ) → length places ≤ i
    → lesser before (least_near left prefix right (drop i places)) ≡ all → before ≡ all
near-end left prefix right places i before all le h = sym (lesser-none before) ∙ ap (λ l. lesser before (least_near left prefix right l)) (sym (drop_all i places le)) ∙ h
