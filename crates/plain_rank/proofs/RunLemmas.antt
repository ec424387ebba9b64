-- The places at a position, in places that stand in order.
use Rattle.std.proofs.Common.{◌≡◌, ℕ, zero, suc, ◌+◌, ◌-◌, ◌<◌, ◌≤◌, Bool, true, false, List, [], ◌∷◌, length, take, drop, filter, get_or, Some, None, cond, refl, sym, ap, ◌∙◌, arith}
use Rattle.std.specs.Prelude.{nat_lt}
use Rattle.std.specs.List.{list_any, AllByRecursion, AllWithin}
use Rattle.std.specs.List.Sorted.{IsPartitionedBy, IsPartitionPoint}
use Rattle.std.proofs.lemmas.Bool.Decides.{nat_tests}
use Rattle.search_base.specs.declared.document.Place.{Place}
use Rattle.search_base.specs.Least.{least_by}
use Rattle.search_base.specs.Occurrence.{is_asked, is_word_at}
use Rattle.search_base.proofs.AnyLemmas.{list_any-filter}
use Rattle.search_base.proofs.LeastLemmas.{least_by-filter, least_by-same}
use Rattle.plain_rank.specs.Near.{StandsBefore, InOrder}
use Rattle.plain_rank.specs.Numbers.{number_of, is_there, number_there}
use Rattle.plain_rank.specs.Runs.{is_at, is_before}

-- ---- in order, those before a position come first
before-earlier : (path position : ℕ) (a b : Place) → StandsBefore a b → is_before path position b ≡ true → is_before path position a ≡ true
before-earlier path position a b before h = grind (arith, nat_tests)

later-all : {X : Type 0} (P : X → Type 0) (xs : List X) (i : ℕ) (d : X) → AllByRecursion P xs → i < length xs → P (get_or xs i d)
later-all P [] i d all lt = absurd (omega arith)
later-all P (x ∷ xs) zero d all lt = all.0
later-all P (x ∷ xs) (suc i) d all lt = later-all P xs i d all.1 (omega arith)

pub order-parted : (path position : ℕ) (places : List Place) → InOrder places → IsPartitionedBy (is_before path position) places
order-parted path position [] order i j d le lt h = absurd (omega arith)
order-parted path position (p ∷ places) order zero zero d le lt h = h
order-parted path position (p ∷ places) order zero (suc j) d le lt h =
    before-earlier path position p (get_or places j d) (later-all (StandsBefore p) places j d order.0 (omega arith)) h
order-parted path position (p ∷ places) order (suc i) zero d le lt h = absurd (omega arith)
order-parted path position (p ∷ places) order (suc i) (suc j) d le lt h = order-parted path position places order.1 i j d (omega arith) (omega arith) h

-- ---- a filter keeps what lies between
module _ {X : Type 0} (test : X → Bool) where
  abbrev pub Fails : X → Type 0
  Fails x = test x ≡ false

  none-after : (xs : List X) → AllWithin Fails xs 0 (length xs) → [] ≡ filter test xs
  none-after [] all = refl
  none-after (x ∷ xs) all =
      none-after xs (λ k d from within. all (suc k) d (omega arith) (omega arith))
      ∙ ap (λ b. cond b (x ∷ filter test xs) (filter test xs)) (sym (all 0 x (omega arith) (omega arith)))

  pub filter-between : (xs : List X) (start n : ℕ) → start + n ≤ length xs → AllWithin Fails xs 0 start → AllWithin Fails xs (start + n) (length xs)
      → filter test (take n (drop start xs)) ≡ filter test xs
  filter-between xs zero zero within front back = none-after xs back
  filter-between [] zero (suc n) within front back = absurd (omega arith)
  filter-between (x ∷ xs) zero (suc n) within front back =
      ap (λ l. cond (test x) (x ∷ l) l) (filter-between xs zero n (omega arith) (λ k d from below. absurd (omega arith)) (λ k d from below. back (suc k) d (omega arith) (omega arith)))
  filter-between [] (suc start) n within front back = absurd (omega arith)
  filter-between (x ∷ xs) (suc start) n within front back =
      filter-between xs start n (omega arith) (λ k d from below. front (suc k) d (omega arith) (omega arith)) (λ k d from below. back (suc k) d (omega arith) (omega arith))
      ∙ ap (λ b. cond b (x ∷ filter test xs) (filter test xs)) (sym (front 0 x (omega arith) (omega arith)))

-- ---- those before a position, and those behind it
before-not_at : (path position : ℕ) (place : Place) → is_before path position place ≡ true → is_at path position place ≡ false
before-not_at path position place h = grind (arith, nat_tests)

behind-not_at : (path position : ℕ) (place : Place) → is_before path (position + 1) place ≡ false → is_at path position place ≡ false
behind-not_at path position place h = grind (arith, nat_tests)

before-more : (path position : ℕ) (place : Place) → is_before path position place ≡ true → is_before path (position + 1) place ≡ true
before-more path position place h = grind (arith, nat_tests)

abbrev pub Parts : List Place → ℕ → ℕ → ℕ → Type 0
Parts places path position n = IsPartitionPoint (λ place. is_before path position place ≡ true) (λ place. is_before path position place ≡ false) places n

pub parts-rise : (places : List Place) (path position start end : ℕ) → start ≤ length places → Parts places path position start → Parts places path (position + 1) end → start ≤ end
parts-rise [] path position start end within from until = omega arith
parts-rise (p ∷ places) path position start end within from until = by (nat_lt end start) refl
  where
    by : (b : Bool) → nat_lt end start ≡ b → start ≤ end
    by false e = grind (arith, nat_tests)
    by true e =
        let lt : end < start = grind (arith, nat_tests) in
        let front = before-more path position (get_or (p ∷ places) end p) (from.0 end p (omega arith) lt) in
        let behind = until.1 end p (omega arith) (omega arith) in
        absurd (cc)

pub those-at : (places : List Place) (path position start end : ℕ) → start ≤ end → end ≤ length places → Parts places path position start → Parts places path (position + 1) end
    → filter (is_at path position) (take (end - start) (drop start places)) ≡ filter (is_at path position) places
those-at places path position start end le within from until =
    let last : start + (end - start) ≡ end = omega arith in
    filter-between (is_at path position) places start (end - start) (omega arith)
    (λ k d low high. before-not_at path position (get_or places k d) (from.0 k d low high))
    (λ k d low high. behind-not_at path position (get_or places k d) (until.1 k d (omega arith) high))

-- ---- what is asked of the places at a position
pub word-there : (prefix : Bool) (path position : ℕ) (word : List ℕ) (xs ys : List Place) → filter (is_at path position) xs ≡ filter (is_at path position) ys
    → list_any (is_word_at prefix path position word) xs ≡ list_any (is_word_at prefix path position word) ys
word-there prefix path position word xs ys same =
    let asked = λ (place : Place). is_asked prefix word place.word in
    sym (list_any-filter asked (is_at path position) xs) ∙ ap (list_any asked) same ∙ list_any-filter asked (is_at path position) ys

number-turned : (by_rank : Bool) (start : Place) (place : Place) → number_there by_rank start place ≡ cond (is_at start.path.0 start.position place) (Some (number_of by_rank place)) None
number-turned by_rank start place =
    let same : is_there start place ≡ is_at start.path.0 start.position place = grind (arith, nat_tests) in
    ap (λ b. cond b (Some (number_of by_rank place)) None) same

numbers-there : (by_rank : Bool) (start : Place) (places : List Place) → least_by (number_there by_rank start) places ≡ least_by (λ place. Some (number_of by_rank place)) (filter (is_at start.path.0 start.position) places)
numbers-there by_rank start places =
    least_by-same (number_there by_rank start) (λ place. cond (is_at start.path.0 start.position place) (Some (number_of by_rank place)) None) (number-turned by_rank start) places
    ∙ sym (least_by-filter (λ place. Some (number_of by_rank place)) (is_at start.path.0 start.position) places)

pub number-there : (by_rank : Bool) (start : Place) (xs ys : List Place) → filter (is_at start.path.0 start.position) xs ≡ filter (is_at start.path.0 start.position) ys
    → least_by (number_there by_rank start) xs ≡ least_by (number_there by_rank start) ys
number-there by_rank start xs ys same =
    numbers-there by_rank start xs ∙ ap (least_by (λ place. Some (number_of by_rank place))) same ∙ sym (numbers-there by_rank start ys)
