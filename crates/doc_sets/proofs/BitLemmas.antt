-- Sets kept as the bits of words.
use Rattle.std.proofs.Common.{◌≡◌, ℕ, zero, suc, ◌+◌, ◌-◌, ◌*◌, ◌/◌, ◌%◌, ◌^◌, ◌<◌, ◌≤◌, min, max, Bool, true, false, not, ◌||◌, ◌&&◌, eqb, ltb, nat_lt, drop, List, [], ◌∷◌, ◌++◌, length, get_or, replicate, refl, sym, ap, ap₂, ◌∙◌, arith, inl, inr, w64}
use Rattle.std.proofs.lemmas.Bool.{eq-eqb, ne_eqb, lt-ltb, le-ltb, cases_lt, cases_eq, or_left, or_right}
use Rattle.std.proofs.lemmas.Bool.Decides.{nat_tests}
use Rattle.std.proofs.lemmas.List.{get_or-drop, get_or_past, get_or-set_same, get_or-set_other, get_or-replicate, get_or_append_left, get_or-append_right, length-replicate}
use Rattle.std.proofs.lemmas.Nat.Bits.{bit_at_and, bit_at_or, bit_at_not, bit_at-zero, bit_at-lt, bit_at_ones, bit_at_ones_above, bit_at_set_same, bit_at_set_other, bit_at_clear_same, bit_at_clear_other, bit_at-trailing_zeros}
use Rattle.std.proofs.lemmas.Nat.{one_shl, pow_below}
use Rattle.std.proofs.Math.ListN.{set}
use Rattle.std.specs.Prelude.{Option, Some, None, slice_get}
use Rattle.std.specs.Option.{option_map, MatchOption}
use Rattle.search_base.specs.declared.document.DocId.{DocId}
use Rattle.std.specs.List.{range_with_len}
use Rattle.std.specs.Int.{bit_at, bit_not, trailing_zeros}
use Rattle.std.specs.Int.Bits.{bit_and}
use Rattle.std.specs.Int.RustNames.{bit_or}
use Rattle.doc_sets.specs.Sets.{has, AreAbove, IsIncreasing, above, with_id, without_id, intersection, difference, union}
use Rattle.doc_sets.specs.Bits.{has_bit, ids_from, ids_of, IsWordwise}
use Rattle.doc_sets.proofs.PlaceLemmas.{out-absent}
use Rattle.doc_sets.proofs.SetLemmas.{has-above, increasing-filter, increasing-put, increasing-out, increasing-or, increasing-same, has-filter, has-with_id, has-without_id, has-union}

-- ---- ranges
pub above-range : (a b n : ℕ) → a < b → AreAbove a (range_with_len b n)
above-range a b zero l = tt
above-range a b (suc n) l = (l, above-range a (b + 1) n (omega arith))

increasing-range : (b n : ℕ) → IsIncreasing (range_with_len b n)
increasing-range b zero = tt
increasing-range b (suc n) = (above-range b (b + 1) n (omega arith), increasing-range (b + 1) n)

has-range_inside : (b n d : ℕ) → b ≤ d → d < b + n → has (range_with_len b n) d ≡ true
has-range_inside b zero d l m = absurd (omega (arith, l, m))
has-range_inside b (suc n) d l m = elim (cases_eq b d) [
  | inl e ↦ ap (λ v. v || has (range_with_len (b + 1) n) d) (eq-eqb b d e)
  | inr apart ↦ ap (λ v. v || has (range_with_len (b + 1) n) d) (ne_eqb b d apart) ∙ has-range_inside (b + 1) n d (omega (arith, l, apart)) (omega (arith, m))
]

has-range_past : (b n d : ℕ) → b + n ≤ d → has (range_with_len b n) d ≡ false
has-range_past b zero d l = refl
has-range_past b (suc n) d l = ap (λ v. v || has (range_with_len (b + 1) n) d) (ne_eqb b d (λ e. omega (arith, l, e))) ∙ has-range_past (b + 1) n d (omega (arith, l))

has-range_below : (b n d : ℕ) → d < b → has (range_with_len b n) d ≡ false
has-range_below b n d l = has-above d d (range_with_len b n) (above-range d b n l) (omega arith)

-- ---- a list of ids by its members
pub has_bit-past : (ws : List ℕ) (q : ℕ) → 64 * length ws ≤ q → has_bit ws q ≡ false
has_bit-past ws q l =
    let past : get_or ws (q / 64) 0 ≡ 0 = get_or_past ws (q / 64) 0 (omega (arith, l)) in
    ap (λ v. eqb (bit_at v (q % 64)) 1) past ∙ ap (λ v. eqb v 1) (bit_at-zero (q % 64))

pub increasing-ids_from : (b : ℕ) (ws : List ℕ) → IsIncreasing (ids_from b ws)
unfolding ids_from
increasing-ids_from b ws = increasing-filter _ _ (increasing-range b (64 * length ws))

pub has-ids_from_below : (b : ℕ) (ws : List ℕ) (d : ℕ) → d < b → has (ids_from b ws) d ≡ false
unfolding ids_from
has-ids_from_below b ws d l = has-filter _ (range_with_len b (64 * length ws)) d ∙ ap (λ v. v && has_bit ws (d - b)) (has-range_below b (64 * length ws) d l)

pub has-ids_from : (b : ℕ) (ws : List ℕ) (d : ℕ) → b ≤ d → has (ids_from b ws) d ≡ has_bit ws (d - b)
unfolding ids_from
has-ids_from b ws d l = has-filter _ (range_with_len b (64 * length ws)) d ∙ elim (cases_lt d (b + 64 * length ws)) [
  | inl m ↦ ap (λ v. v && has_bit ws (d - b)) (has-range_inside b (64 * length ws) d l m)
  | inr m ↦ ap (λ v. v && has_bit ws (d - b)) (has-range_past b (64 * length ws) d m) ∙ sym (has_bit-past ws (d - b) (omega (arith, m)))
]

pub has-ids_of : (ws : List ℕ) (d : ℕ) → has (ids_of ws) d ≡ has_bit ws d
has-ids_of ws d = has-ids_from 0 ws d (omega arith) ∙ ap (has_bit ws) (omega arith)

pub same_ids : (xs ys : List ℕ) → ((q : ℕ) → has_bit xs q ≡ has_bit ys q) → ids_of xs ≡ ids_of ys
same_ids xs ys same = increasing-same _ _ (increasing-ids_from 0 xs) (increasing-ids_from 0 ys) (λ d. has-ids_of xs d ∙ same d ∙ sym (has-ids_of ys d))

pub same_words : (xs ys : List ℕ) → ((k : ℕ) → get_or xs k 0 ≡ get_or ys k 0) → ids_of xs ≡ ids_of ys
same_words xs ys same = same_ids xs ys (λ q. ap (λ v. eqb (bit_at v (q % 64)) 1) (same (q / 64)))

pub ids_of-nil : ids_of [] ≡ []
unfolding ids_from
ids_of-nil = refl

zeros : (n k : ℕ) → ◌≡◌ {A = ℕ} (get_or (replicate n 0) k 0) 0
zeros n k = elim (cases_lt k n) [
  | inl l ↦ get_or-replicate {A = ℕ} n k 0 0 l
  | inr l ↦ get_or_past {X = ℕ} (replicate n 0) k 0 (omega (arith, l, length-replicate {A = ℕ} n 0))
]

pub ids_of-zeros : (n : ℕ) → ids_of (replicate n 0) ≡ []
ids_of-zeros n = same_words (replicate n 0) [] (zeros n) ∙ ids_of-nil

-- ---- words made of words
has_bit-wordwise : (op : ℕ → ℕ → ℕ) (f : Bool → Bool → Bool) (xs ys zs : List ℕ) → IsWordwise op xs ys zs
    → ((k i : ℕ) → k < length xs → i < 64 → eqb (bit_at (op (get_or xs k 0) (get_or ys k 0)) i) 1 ≡ f (eqb (bit_at (get_or xs k 0) i) 1) (eqb (bit_at (get_or ys k 0) i) 1))
    → ((q : ℕ) → 64 * length xs ≤ q → f (has_bit xs q) (has_bit ys q) ≡ false)
    → (q : ℕ) → has_bit zs q ≡ f (has_bit xs q) (has_bit ys q)
has_bit-wordwise op f xs ys zs made each past q = elim (cases_lt q (64 * length xs)) [
  | inl l ↦ ap (λ v. eqb (bit_at v (q % 64)) 1) (made.each (q / 64) (omega (arith, l))) ∙ each (q / 64) (q % 64) (omega (arith, l)) (omega arith)
  | inr l ↦ has_bit-past zs q (omega (arith, l, made.long)) ∙ sym (past q l)
]

pub min_test : (a b : ℕ) → a < 2 → b < 2 → eqb (min a b) 1 ≡ (eqb a 1 && eqb b 1)
min_test a b l m = grind (arith, nat_tests)

max_test : (a b : ℕ) → a < 2 → b < 2 → eqb (max a b) 1 ≡ (eqb a 1 || eqb b 1)
max_test a b l m = grind (arith, nat_tests)

not_test : (a b : ℕ) → a < 2 → b < 2 → eqb (min a (1 - b)) 1 ≡ (eqb a 1 && not (eqb b 1))
not_test a b l m = grind (arith, nat_tests)

pub ids_of-and : (xs ys zs : List ℕ) → IsWordwise bit_and xs ys zs → ids_of zs ≡ intersection (ids_of xs) (ids_of ys)
ids_of-and xs ys zs made = increasing-same _ _ (increasing-ids_from 0 zs) (increasing-filter _ _ (increasing-ids_from 0 xs))
    (λ d. has-ids_of zs d
    ∙ has_bit-wordwise bit_and (λ a b. a && b) xs ys zs made
    (λ k i _ _. ap (λ v. eqb v 1) (bit_at_and (get_or xs k 0) (get_or ys k 0) i) ∙ min_test _ _ (bit_at-lt (get_or xs k 0) i) (bit_at-lt (get_or ys k 0) i))
    (λ q l. ap (λ v. v && has_bit ys q) (has_bit-past xs q l)) d
    ∙ sym (has-filter (has (ids_of ys)) (ids_of xs) d ∙ ap₂ (λ a b. a && b) (has-ids_of xs d) (has-ids_of ys d)))

pub ids_of-or : (xs ys zs : List ℕ) → length ys ≤ length xs → IsWordwise bit_or xs ys zs → ids_of zs ≡ union (ids_of xs) (ids_of ys)
ids_of-or xs ys zs short made = increasing-same _ _ (increasing-ids_from 0 zs) (increasing-or (ids_of xs) (ids_of ys) (increasing-ids_from 0 ys))
    (λ d. has-ids_of zs d
    ∙ has_bit-wordwise bit_or (λ a b. a || b) xs ys zs made
    (λ k i _ _. ap (λ v. eqb v 1) (bit_at_or (get_or xs k 0) (get_or ys k 0) i) ∙ max_test _ _ (bit_at-lt (get_or xs k 0) i) (bit_at-lt (get_or ys k 0) i))
    (λ q l. ap₂ (λ a b. a || b) (has_bit-past xs q l) (has_bit-past ys q (omega (arith, l, short)))) d
    ∙ sym (has-union (ids_of xs) (ids_of ys) d ∙ ap₂ (λ a b. a || b) (has-ids_of xs d) (has-ids_of ys d)))

pub ids_of-minus : (xs ys zs : List ℕ) → ((k : ℕ) → get_or ys k 0 < 2 ^ 64) → IsWordwise (λ v w. bit_and v (bit_not w64 w)) xs ys zs → ids_of zs ≡ difference (ids_of xs) (ids_of ys)
ids_of-minus xs ys zs fits made = increasing-same _ _ (increasing-ids_from 0 zs) (increasing-filter _ _ (increasing-ids_from 0 xs))
    (λ d. has-ids_of zs d
    ∙ has_bit-wordwise (λ v w. bit_and v (bit_not w64 w)) (λ a b. a && not b) xs ys zs made
    (λ k i _ m. ap (λ v. eqb v 1) (bit_at_and (get_or xs k 0) (bit_not w64 (get_or ys k 0)) i ∙ ap (min (bit_at (get_or xs k 0) i)) (bit_at_not w64 (get_or ys k 0) i (fits k) m))
    ∙ not_test _ _ (bit_at-lt (get_or xs k 0) i) (bit_at-lt (get_or ys k 0) i))
    (λ q l. ap (λ v. v && not (has_bit ys q)) (has_bit-past xs q l)) d
    ∙ sym (has-filter (λ d. not (has (ids_of ys) d)) (ids_of xs) d ∙ ap₂ (λ a b. a && not b) (has-ids_of xs d) (has-ids_of ys d)))

-- ---- a word and others
pub low : (w : ℕ) (ws : List ℕ) (q : ℕ) → q < 64 → has_bit (w ∷ ws) q ≡ eqb (bit_at w q) 1
low w ws q l =
    let first : q / 64 ≡ 0 = omega (arith, l) in
    let same : q % 64 ≡ q = omega (arith, l) in
    ap (λ v. eqb (bit_at (get_or (w ∷ ws) v 0) (q % 64)) 1) first ∙ ap (λ v. eqb (bit_at w v) 1) same

pub high : (w : ℕ) (ws : List ℕ) (q : ℕ) → 64 ≤ q → has_bit (w ∷ ws) q ≡ has_bit ws (q - 64)
high w ws q l =
    let next : q / 64 ≡ suc ((q - 64) / 64) = omega (arith, l) in
    let same : q % 64 ≡ (q - 64) % 64 = omega (arith, l) in
    ap (λ v. eqb (bit_at (get_or (w ∷ ws) v 0) (q % 64)) 1) next ∙ ap (λ v. eqb (bit_at (get_or ws ((q - 64) / 64) 0) v) 1) same

-- a word with no bit is passed over
pub ids_from-none : (b : ℕ) (ws : List ℕ) → ids_from b (0 ∷ ws) ≡ ids_from (b + 64) ws
ids_from-none b ws = increasing-same _ _ (increasing-ids_from b (0 ∷ ws)) (increasing-ids_from (b + 64) ws) (λ d. elim (cases_lt d b) [
  | inl l ↦ has-ids_from_below b (0 ∷ ws) d l ∙ sym (has-ids_from_below (b + 64) ws d (omega (arith, l)))
  | inr l ↦ has-ids_from b (0 ∷ ws) d l ∙ elim (cases_lt (d - b) 64) [
    | inl m ↦ low 0 ws (d - b) m ∙ ap (λ v. eqb v 1) (bit_at-zero (d - b)) ∙ sym (has-ids_from_below (b + 64) ws d (omega (arith, l, m)))
    | inr m ↦ high 0 ws (d - b) m ∙ ap (has_bit ws) (omega (arith, l, m)) ∙ sym (has-ids_from (b + 64) ws d (omega (arith, l, m)))
  ]
])

above_from_has : (a : ℕ) (xs : List ℕ) → ((d : ℕ) → has xs d ≡ true → a < d) → AreAbove a xs
above_from_has a [] h = tt
above_from_has a (x ∷ xs) h = (h x (ap (λ v. v || has xs x) (eq-eqb x x refl)), above_from_has a xs (λ d e. h d (or_right (eqb x d) (has xs d) e)))

-- the word without its lowest bit
abbrev pub rest_of : ℕ → ℕ
rest_of w = bit_and w (bit_not w64 (1 * 2 ^ trailing_zeros w64 w % 2 ^ 64))

-- the lowest bit of a word is the first id
pub ids_from-first : (b w : ℕ) (ws : List ℕ) → 0 < w → w < 2 ^ 64 → ids_from b (w ∷ ws) ≡ (b + trailing_zeros w64 w) ∷ ids_from b (rest_of w ∷ ws)
ids_from-first b w ws some fits = increasing-same _ _ (increasing-ids_from b (w ∷ ws)) (above_from_has _ _ above, increasing-ids_from b (rest_of w ∷ ws)) same
  where
    t : ℕ
    t = trailing_zeros w64 w

    bits : (trailing_zeros w64 w < 64) × (bit_at w (trailing_zeros w64 w) ≡ 1) × ((i : ℕ) → i < trailing_zeros w64 w → bit_at w i ≡ 0)
    bits = bit_at-trailing_zeros w64 w some fits

    -- the bits of the rest
    none : (i : ℕ) → i ≤ trailing_zeros w64 w → bit_at (rest_of w) i ≡ 0
    none i l = elim (cases_eq i (trailing_zeros w64 w)) [
      | inl e ↦ ap (bit_at (rest_of w)) e ∙ bit_at_clear_same w64 w (trailing_zeros w64 w) bits.0
      | inr apart ↦ bit_at_clear_other w64 w (trailing_zeros w64 w) bits.0 i (omega (arith, l, bits.0)) apart ∙ bits.2 i (omega (arith, l, apart))
    ]

    above : (d : ℕ) → has (ids_from b (rest_of w ∷ ws)) d ≡ true → b + trailing_zeros w64 w < d
    above d h = elim (cases_lt (b + trailing_zeros w64 w) d) [
      | inl l ↦ l
      | inr l ↦ absurd (elim (cases_lt d b) [
        | inl m ↦ cc (h, has-ids_from_below b (rest_of w ∷ ws) d m)
        | inr m ↦ cc (h, has-ids_from b (rest_of w ∷ ws) d m ∙ low (rest_of w) ws (d - b) (omega (arith, l, m, bits.0)) ∙ ap (λ v. eqb v 1) (none (d - b) (omega (arith, l, m))))
      ])
    ]

    same : (d : ℕ) → has (ids_from b (w ∷ ws)) d ≡ (eqb (b + trailing_zeros w64 w) d || has (ids_from b (rest_of w ∷ ws)) d)
    same d = elim (cases_lt d b) [
      | inl l ↦ has-ids_from_below b (w ∷ ws) d l ∙ sym (ap₂ (λ u v. u || v) (ne_eqb _ d (λ e. omega (arith, l, e))) (has-ids_from_below b (rest_of w ∷ ws) d l))
      | inr l ↦ has-ids_from b (w ∷ ws) d l ∙ elim (cases_eq (b + trailing_zeros w64 w) d) [
        | inl e ↦ ap (has_bit (w ∷ ws)) (omega (arith, e)) ∙ low w ws (trailing_zeros w64 w) bits.0 ∙ ap (λ v. eqb v 1) bits.1 ∙ sym (ap (λ v. v || has (ids_from b (rest_of w ∷ ws)) d) (eq-eqb _ d e))
        | inr apart ↦ other d l apart ∙ sym (has-ids_from b (rest_of w ∷ ws) d l) ∙ sym (ap (λ v. v || has (ids_from b (rest_of w ∷ ws)) d) (ne_eqb _ d apart))
      ]
    ]
      where
        other : (d : ℕ) → b ≤ d → (b + trailing_zeros w64 w ≡ d → ⊥) → has_bit (w ∷ ws) (d - b) ≡ has_bit (rest_of w ∷ ws) (d - b)
        other d l apart = elim (cases_lt (d - b) 64) [
          | inl m ↦ low w ws (d - b) m ∙ ap (λ v. eqb v 1) (sym (bit_at_clear_other w64 w (trailing_zeros w64 w) bits.0 (d - b) m (λ e. apart (omega (arith, e, l))))) ∙ sym (low (rest_of w) ws (d - b) m)
          | inr m ↦ high w ws (d - b) m ∙ sym (high (rest_of w) ws (d - b) m)
        ]

pub ids_from-nil : (b : ℕ) → ids_from b [] ≡ []
unfolding ids_from
ids_from-nil b = refl

pub ids_from-end : (b : ℕ) → ids_from b (0 ∷ []) ≡ []
ids_from-end b = ids_from-none b [] ∙ ids_from-nil (b + 64)

-- ---- from a bit on
none_left : (a : Bool) → (a && false) ≡ false
none_left true = refl
none_left false = refl

all_left : (a : Bool) → (a && true) ≡ a
all_left true = refl
all_left false = refl

ltb_same : (a b c d : ℕ) → (a < b → c < d) → (c < d → a < b) → ltb a b ≡ ltb c d
ltb_same a b c d f g = elim (cases_lt a b) [
  | inl l ↦ lt-ltb a b l ∙ sym (lt-ltb c d (f l))
  | inr l ↦ le-ltb a b l ∙ sym (le-ltb c d (elim (cases_lt c d) [ inl m ↦ absurd (omega (arith, l, g m)) | inr m ↦ m ]))
]

-- a word without its bits up to the one at k
abbrev pub cut_at : ℕ → ℕ → ℕ
cut_at w k = bit_and (bit_and w (bit_not w64 (1 * 2 ^ k % 2 ^ 64))) (bit_not w64 (1 * 2 ^ k % 2 ^ 64 - 1))

cut-bits : (w k i : ℕ) → k < 64 → i < 64 → eqb (bit_at (cut_at w k) i) 1 ≡ (eqb (bit_at w i) 1 && nat_lt k i)
cut-bits w k i l m = ap (λ v. eqb v 1) (bit_at_and word (bit_not w64 under) i ∙ ap (min (bit_at word i)) (bit_at_not w64 under i (omega (arith, small, fits)) m)) ∙ by_place
  where
    word : ℕ
    word = bit_and w (bit_not w64 (1 * 2 ^ k % 2 ^ 64))

    under : ℕ
    under = 1 * 2 ^ k % 2 ^ 64 - 1

    fits : 2 ^ k < 2 ^ 64
    fits = pow_below k 64 l

    small : 1 * 2 ^ k % 2 ^ 64 - 1 ≡ 2 ^ k - 1
    small = ap (λ v. v - 1) (one_shl k 64 l)

    by_place : eqb (min (bit_at word i) (1 - bit_at under i)) 1 ≡ (eqb (bit_at w i) 1 && nat_lt k i)
    by_place = elim (cases_lt i k) [
      | inl low ↦
          let one : bit_at under i ≡ 1 = ap (λ v. bit_at v i) small ∙ bit_at_ones k i low in
          ap (λ v. eqb v 1) (let e : min (bit_at word i) (1 - bit_at under i) ≡ 0 = omega (arith, one) in e)
          ∙ sym (ap (λ v. eqb (bit_at w i) 1 && v) (le-ltb k i (omega (arith, low))) ∙ none_left (eqb (bit_at w i) 1))
      | inr high ↦ elim (cases_eq i k) [
        | inl same ↦
            let none : bit_at word i ≡ 0 = ap (bit_at word) same ∙ bit_at_clear_same w64 w k l in
            ap (λ v. eqb v 1) (let e : min (bit_at word i) (1 - bit_at under i) ≡ 0 = omega (arith, none) in e)
            ∙ sym (ap (λ v. eqb (bit_at w i) 1 && v) (le-ltb k i (omega (arith, same))) ∙ none_left (eqb (bit_at w i) 1))
        | inr other ↦
            let kept : bit_at word i ≡ bit_at w i = bit_at_clear_other w64 w k l i m other in
            let zero_under : bit_at under i ≡ 0 = ap (λ v. bit_at v i) small ∙ bit_at_ones_above k i high in
            ap (λ v. eqb v 1) (let e : min (bit_at word i) (1 - bit_at under i) ≡ bit_at w i = omega (arith, kept, zero_under, bit_at-lt w i) in e)
            ∙ sym (ap (λ v. eqb (bit_at w i) 1 && v) (lt-ltb k i (omega (arith, high, other))) ∙ all_left (eqb (bit_at w i) 1))
      ]
    ]

-- what is greater than d is in the word of d, past its bit, and in the words behind that
pub ids_from-above : (ws : List ℕ) (d w : ℕ) (rest : List ℕ) → drop (d / 64) ws ≡ w ∷ rest
    → ids_from (d / 64 * 64) (cut_at w (d % 64) ∷ rest) ≡ above d (ids_of ws)
ids_from-above ws d w rest at = increasing-same _ _ (increasing-ids_from base (cut_at w (d % 64) ∷ rest)) (increasing-filter _ _ (increasing-ids_from 0 ws))
    (λ q. same q ∙ sym (has-filter (nat_lt d) (ids_of ws) q ∙ ap (λ v. v && nat_lt d q) (has-ids_of ws q)))
  where
    base : ℕ
    base = d / 64 * 64

    -- a bit of the words from that of d on
    there : (q : ℕ) → base ≤ q → has_bit ws q ≡ has_bit (w ∷ rest) (q - base)
    there q l = ap₂ (λ v n. eqb (bit_at v n) 1)
        (ap (λ n. get_or ws n 0) (let e : q / 64 ≡ d / 64 + (q - base) / 64 = omega (arith, l) in e) ∙ sym (get_or-drop (d / 64) ws ((q - base) / 64) 0)
        ∙ ap (λ v. get_or v ((q - base) / 64) 0) at)
        (let e : q % 64 ≡ (q - base) % 64 = omega (arith, l) in e)

    same : (q : ℕ) → has (ids_from base (cut_at w (d % 64) ∷ rest)) q ≡ (has_bit ws q && nat_lt d q)
    same q = elim (cases_lt q base) [
      | inl l ↦ has-ids_from_below base (cut_at w (d % 64) ∷ rest) q l ∙ sym (ap (λ v. has_bit ws q && v) (le-ltb d q (omega (arith, l))) ∙ none_left (has_bit ws q))
      | inr l ↦ has-ids_from base (cut_at w (d % 64) ∷ rest) q l ∙ inside q l ∙ ap (λ v. v && nat_lt d q) (sym (there q l))
    ]
      where
        inside : (q : ℕ) → base ≤ q → has_bit (cut_at w (d % 64) ∷ rest) (q - base) ≡ (has_bit (w ∷ rest) (q - base) && nat_lt d q)
        inside q l = elim (cases_lt (q - base) 64) [
          | inl m ↦ low (cut_at w (d % 64)) rest (q - base) m ∙ cut-bits w (d % 64) (q - base) (omega arith) m
              ∙ ap₂ (λ u v. u && v) (sym (low w rest (q - base) m)) (ltb_same (d % 64) (q - base) d q (λ k. omega (arith, l, k)) (λ k. omega (arith, l, k)))
          | inr m ↦ high (cut_at w (d % 64)) rest (q - base) m ∙ sym (high w rest (q - base) m) ∙ sym (ap (λ v. has_bit (w ∷ rest) (q - base) && v) (lt-ltb d q (omega (arith, l, m))) ∙ all_left (has_bit (w ∷ rest) (q - base)))
        ]

pub above-past : (ws : List ℕ) (d : ℕ) → length ws ≤ d / 64 → above d (ids_of ws) ≡ []
above-past ws d l = increasing-same _ [] (increasing-filter _ _ (increasing-ids_from 0 ws)) tt
    (λ q. has-filter (nat_lt d) (ids_of ws) q ∙ ap (λ v. v && nat_lt d q) (has-ids_of ws q) ∙ elim (cases_lt q (64 * length ws)) [
      | inl m ↦ ap (λ v. has_bit ws q && v) (le-ltb d q (omega (arith, l, m))) ∙ none_left (has_bit ws q)
      | inr m ↦ ap (λ v. v && nat_lt d q) (has_bit-past ws q m)
    ])

-- what an iteration gives first
pub first-of : (ids rest : List ℕ) (r : Option DocId) → MatchOption r ((ids ≡ []) × (rest ≡ [])) (λ x. ids ≡ x.0 ∷ rest) → option_map (λ id. id.0) r ≡ slice_get ids 0
first-of ids rest None h = sym (ap (λ v. slice_get v 0) h.0)
first-of ids rest (Some x) h = sym (ap (λ v. slice_get v 0) h)

-- ---- one bit
apart : (d q : ℕ) → d / 64 ≡ q / 64 → d % 64 ≡ q % 64 → d ≡ q
apart d q e f = omega (arith, e, f)

-- another word at the place of d leaves the other places
elsewhere : (ws : List ℕ) (d w q : ℕ) → (q / 64 ≡ d / 64 → ⊥) → has_bit (set ws (d / 64) w) q ≡ has_bit ws q
elsewhere ws d w q other = ap (λ v. eqb (bit_at v (q % 64)) 1) (get_or-set_other ws (d / 64) (q / 64) w 0 other)

here : (ws : List ℕ) (d w q : ℕ) → d / 64 < length ws → q / 64 ≡ d / 64 → has_bit (set ws (d / 64) w) q ≡ eqb (bit_at w (q % 64)) 1
here ws d w q l e = ap (λ v. eqb (bit_at (get_or (set ws (d / 64) w) v 0) (q % 64)) 1) e ∙ ap (λ v. eqb (bit_at v (q % 64)) 1) (get_or-set_same ws (d / 64) w 0 l)

pub has_bit-set : (ws : List ℕ) (d q : ℕ) → d / 64 < length ws
    → has_bit (set ws (d / 64) (bit_or (get_or ws (d / 64) 0) (1 * 2 ^ (d % 64) % 2 ^ 64))) q ≡ (eqb d q || has_bit ws q)
has_bit-set ws d q l = elim (cases_eq (q / 64) (d / 64)) [
  | inl e ↦ here ws d _ q l e ∙ elim (cases_eq (q % 64) (d % 64)) [
    | inl f ↦ ap (λ v. eqb (bit_at (bit_or (get_or ws (d / 64) 0) (1 * 2 ^ (d % 64) % 2 ^ 64)) v) 1) f
        ∙ ap (λ v. eqb v 1) (bit_at_set_same w64 (get_or ws (d / 64) 0) (d % 64) (omega arith))
        ∙ sym (or_left (eqb d q) (has_bit ws q) (eq-eqb d q (apart d q (sym e) (sym f))))
    | inr f ↦ ap (λ v. eqb v 1) (bit_at_set_other w64 (get_or ws (d / 64) 0) (d % 64) (omega arith) (q % 64) f)
        ∙ ap (λ v. eqb (bit_at (get_or ws v 0) (q % 64)) 1) (sym e)
        ∙ sym (ap (λ v. v || has_bit ws q) (ne_eqb d q (λ s. f (ap (λ v. v % 64) (sym s)))))
  ]
  | inr e ↦ elsewhere ws d _ q e ∙ sym (ap (λ v. v || has_bit ws q) (ne_eqb d q (λ s. e (ap (λ v. v / 64) (sym s)))))
]

pub ids_of-set : (ws : List ℕ) (d : ℕ) → d / 64 < length ws
    → ids_of (set ws (d / 64) (bit_or (get_or ws (d / 64) 0) (1 * 2 ^ (d % 64) % 2 ^ 64))) ≡ with_id d (ids_of ws)
ids_of-set ws d l = increasing-same _ _ (increasing-ids_from 0 _) (increasing-put d (ids_of ws) (increasing-ids_from 0 ws))
    (λ q. has-ids_of _ q ∙ has_bit-set ws d q l ∙ ap (λ v. eqb d q || v) (sym (has-ids_of ws q)) ∙ sym (has-with_id d q (ids_of ws)))

pub has_bit-unset : (ws : List ℕ) (d q : ℕ) → d / 64 < length ws
    → has_bit (set ws (d / 64) (bit_and (get_or ws (d / 64) 0) (bit_not w64 (1 * 2 ^ (d % 64) % 2 ^ 64)))) q ≡ (has_bit ws q && not (eqb d q))
has_bit-unset ws d q l = elim (cases_eq (q / 64) (d / 64)) [
  | inl e ↦ here ws d _ q l e ∙ elim (cases_eq (q % 64) (d % 64)) [
    | inl f ↦ ap (λ v. eqb (bit_at (bit_and (get_or ws (d / 64) 0) (bit_not w64 (1 * 2 ^ (d % 64) % 2 ^ 64))) v) 1) f
        ∙ ap (λ v. eqb v 1) (bit_at_clear_same w64 (get_or ws (d / 64) 0) (d % 64) (omega arith))
        ∙ sym (ap (λ v. has_bit ws q && not v) (eq-eqb d q (apart d q (sym e) (sym f))) ∙ none_left (has_bit ws q))
    | inr f ↦ ap (λ v. eqb v 1) (bit_at_clear_other w64 (get_or ws (d / 64) 0) (d % 64) (omega arith) (q % 64) (omega arith) f)
        ∙ ap (λ v. eqb (bit_at (get_or ws v 0) (q % 64)) 1) (sym e)
        ∙ sym (ap (λ v. has_bit ws q && not v) (ne_eqb d q (λ s. f (ap (λ v. v % 64) (sym s)))) ∙ all_left (has_bit ws q))
  ]
  | inr e ↦ elsewhere ws d _ q e ∙ sym (ap (λ v. has_bit ws q && not v) (ne_eqb d q (λ s. e (ap (λ v. v / 64) (sym s)))) ∙ all_left (has_bit ws q))
]

pub ids_of-unset : (ws : List ℕ) (d : ℕ) → d / 64 < length ws
    → ids_of (set ws (d / 64) (bit_and (get_or ws (d / 64) 0) (bit_not w64 (1 * 2 ^ (d % 64) % 2 ^ 64)))) ≡ without_id d (ids_of ws)
ids_of-unset ws d l = increasing-same _ _ (increasing-ids_from 0 _) (increasing-out d (ids_of ws) (increasing-ids_from 0 ws))
    (λ q. has-ids_of _ q ∙ has_bit-unset ws d q l ∙ ap (λ v. v && not (eqb d q)) (sym (has-ids_of ws q)) ∙ sym (has-without_id d q (ids_of ws) (increasing-ids_from 0 ws)))

-- what is past the words is not there to be taken out
pub ids_of-unset_past : (ws : List ℕ) (d : ℕ) → length ws ≤ d / 64 → ids_of ws ≡ without_id d (ids_of ws)
ids_of-unset_past ws d l = sym (out-absent (ids_of ws) d (has-ids_of ws d ∙ has_bit-past ws d (omega (arith, l))))

-- words with no bit at the end change nothing
padded : (ws : List ℕ) (m k : ℕ) → ◌≡◌ {A = ℕ} (get_or (ws ++ replicate m 0) k 0) (get_or ws k 0)
padded ws m k = elim (cases_lt k (length ws)) [
  | inl l ↦ get_or_append_left ws (replicate m 0) 0 k l
  | inr l ↦ get_or-append_right {X = ℕ} ws (replicate m 0) (length ws) k 0 refl l ∙ zeros m (k - length ws) ∙ sym (get_or_past ws k 0 l)
]

pub ids_of-padded : (ws : List ℕ) (m : ℕ) → ids_of (ws ++ replicate m 0) ≡ ids_of ws
ids_of-padded ws m = same_words (ws ++ replicate m 0) ws (padded ws m)
