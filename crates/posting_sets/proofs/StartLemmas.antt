-- Where words stand in a row, by the entries of one of them.
use Rattle.std.proofs.Common.{◌≡◌, ℕ, zero, suc, ◌+◌, ◌-◌, ◌%◌, ◌^◌, ◌<◌, ◌≤◌, Bool, true, false, ◌&&◌, ◌||◌, cond, List, [], ◌∷◌, map, length, drop, set, get_or, eqb, leb, ltb, refl, sym, ap, ap₂, ◌∙◌, arith}
use Rattle.std.specs.List.{filter}
use Rattle.std.proofs.lemmas.List.{drop_more}
use Rattle.std.proofs.lemmas.Bool.{cond-true, cond-false, cond_both, eq-eqb, ne_eqb, leb-true, le-leb}
use Rattle.std.proofs.lemmas.Bool.Decides.{nat_tests}
use Rattle.sorted_pages.specs.Entries.{has, AreAbove, IsIncreasing}
use Rattle.sorted_pages.proofs.SetLemmas.{has-filter, increasing-filter}
use Rattle.posting_sets.specs.Entries.{document_of, position_of}
use Rattle.posting_sets.specs.Starts.{stand_all, stand_beside, is_within, is_start, is_inside, is_around, starts_at, AreStarts}

-- ---- all words, and all but one
pub beside_all : (at k : ℕ) (lists : List (List ℕ)) (start : ℕ) → at < k → stand_beside at k lists start ≡ stand_all k lists start
beside_all at k [] start l = refl
beside_all at k (list ∷ lists) start l =
    ap₂ (λ a b. (a || has list (start + k)) && b) (ne_eqb k at (λ e. omega (arith, e))) (beside_all at (k + 1) lists start (omega arith))

-- one more word that stands beside the others
pub beside_step : (at i : ℕ) (lists : List (List ℕ)) (start : ℕ) → i < length lists → (eqb i at || has (get_or lists i []) (start + i)) ≡ true
    → stand_beside at (i + 1) (drop (i + 1) lists) start ≡ stand_beside at i (drop i lists) start
beside_step at i lists start l h =
    sym (ap (λ v. stand_beside at i v start) (drop_more lists i [] l) ∙ ap (λ b. b && stand_beside at (i + 1) (drop (i + 1) lists) start) h)

pub put_back : (lists : List (List ℕ)) (i : ℕ) (list : List ℕ) → i < length lists → list ≡ get_or lists i [] → set lists i list ≡ lists
put_back [] i list l e = absurd (omega arith)
put_back (x ∷ xs) zero list l e = ap (λ v. v ∷ xs) e
put_back (x ∷ xs) (suc i) list l e = ap (λ v. x ∷ v) (put_back xs i list (omega arith) e)

turned : (a b : Bool) → (a && b) ≡ (b && a)
turned true true = refl
turned true false = refl
turned false true = refl
turned false false = refl

grouped : (a b c : Bool) → (a && (b && c)) ≡ ((a && b) && c)
grouped true b c = refl
grouped false b c = refl

pub all_split : (i at k : ℕ) (lists : List (List ℕ)) (start : ℕ) → at ≡ k + i → i < length lists
    → stand_all k lists start ≡ (stand_beside at k lists start && has (get_or lists i []) (start + at))
all_split i at k [] start e l = absurd (omega arith)
all_split zero at k (list ∷ lists) start e l =
    let same : k ≡ at = omega arith in
    ap₂ (λ n b. has list (start + n) && b) same (sym (beside_all at (k + 1) lists start (omega arith)))
    ∙ turned (has list (start + at)) (stand_beside at (k + 1) lists start)
    ∙ ap (λ b. ((b || has list (start + k)) && stand_beside at (k + 1) lists start) && has list (start + at)) (sym (eq-eqb k at same))
all_split (suc i) at k (list ∷ lists) start e l =
    ap (λ b. has list (start + k) && b) (all_split i at (k + 1) lists start (omega arith) (omega arith))
    ∙ grouped (has list (start + k)) (stand_beside at (k + 1) lists start) (has (get_or lists i []) (start + at))
    ∙ ap (λ b. ((b || has list (start + k)) && stand_beside at (k + 1) lists start) && has (get_or lists i []) (start + at)) (sym (ne_eqb k at (λ s. omega (arith, s))))

-- ---- entries less a number
module _ (at : ℕ) (p : ℕ → Bool) (low : (x : ℕ) → p x ≡ true → at ≤ x) where
  less_here : (x s : ℕ) → at ≤ x → eqb (x - at) s ≡ eqb x (s + at)
  less_here x s l = grind (arith, nat_tests, l)

  has_less : (xs : List ℕ) (s : ℕ) → has (map (λ x. x - at) (filter p xs)) s ≡ has (filter p xs) (s + at)
  has_less [] s = refl
  has_less (x ∷ xs) s = cond_both (p x) (x ∷ filter p xs) (filter p xs) (λ v. has (map (λ x. x - at) v) s ≡ has v (s + at))
      (λ e. ap₂ (λ a b. a || b) (less_here x s (low x e)) (has_less xs s)) (λ _. has_less xs s)

  above_less : (a : ℕ) (xs : List ℕ) → at ≤ a → AreAbove a xs → AreAbove (a - at) (map (λ x. x - at) (filter p xs))
  above_less a [] l above = tt
  above_less a (x ∷ xs) l above = cond_both (p x) (x ∷ filter p xs) (filter p xs) (λ v. AreAbove (a - at) (map (λ x. x - at) v))
      (λ e. ((let k = low x e in let h = above.0 in omega arith), above_less a xs l above.1)) (λ _. above_less a xs l above.1)

  pub increasing_less : (xs : List ℕ) → IsIncreasing xs → IsIncreasing (map (λ x. x - at) (filter p xs))
  increasing_less [] up = tt
  increasing_less (x ∷ xs) up = cond_both (p x) (x ∷ filter p xs) (filter p xs) (λ v. IsIncreasing (map (λ x. x - at) v))
      (λ e. (above_less x xs (low x e) up.0, increasing_less xs up.1)) (λ _. increasing_less xs up.1)

left_true : (a b : Bool) → (a && b) ≡ true → a ≡ true
left_true true b h = refl
left_true false b h = h

around_low : (lists : List (List ℕ)) (at x : ℕ) → is_around lists at x ≡ true → at ≤ x
around_low lists at x h =
    let l = leb-true at (position_of x) (left_true _ _ h) in omega (arith, l)

-- ---- a walk that passes over documents
filter_cond : (p : ℕ → Bool) (c : Bool) (x : ℕ) (ys : List ℕ) → filter p (cond c (x ∷ ys) ys) ≡ cond c (cond (p x) (x ∷ filter p ys) (filter p ys)) (filter p ys)
filter_cond p true x ys = refl
filter_cond p false x ys = refl

filter_swap : (p q : ℕ → Bool) (xs : List ℕ) → filter p (filter q xs) ≡ filter q (filter p xs)
filter_swap p q [] = refl
filter_swap p q (x ∷ xs) =
    filter_cond p (q x) x (filter q xs) ∙ by (p x) (q x) (filter p (filter q xs)) (filter q (filter p xs)) (filter_swap p q xs) ∙ sym (filter_cond q (p x) x (filter p xs))
  where
    by : (b c : Bool) (r s : List ℕ) → r ≡ s → cond c (cond b (x ∷ r) r) r ≡ cond b (cond c (x ∷ s) s) s
    by true true r s e = ap (λ v. x ∷ v) e
    by true false r s e = e
    by false true r s e = e
    by false false r s e = e

-- a test that a number and the number less another pass alike
filter_less : (at : ℕ) (p q : ℕ → Bool) → ((x : ℕ) → p x ≡ true → q (x - at) ≡ q x) → (xs : List ℕ)
    → map (λ x. x - at) (filter p (filter q xs)) ≡ filter q (map (λ x. x - at) (filter p xs))
filter_less at p q alike xs = ap (map (λ x. x - at)) (filter_swap p q xs) ∙ each xs
  where
    by : (x : ℕ) (ys : List ℕ) (b c : Bool) → c ≡ b → map (λ x. x - at) (cond b (x ∷ ys) ys) ≡ cond c ((x - at) ∷ map (λ x. x - at) ys) (map (λ x. x - at) ys)
    by x ys true c e = sym (cond-true c _ _ e)
    by x ys false c e = sym (cond-false c _ _ e)

    each : (xs : List ℕ) → map (λ x. x - at) (filter q (filter p xs)) ≡ filter q (map (λ x. x - at) (filter p xs))
    each [] = refl
    each (x ∷ xs) = cond_both (p x) (x ∷ filter p xs) (filter p xs) (λ v. map (λ x. x - at) (filter q v) ≡ filter q (map (λ x. x - at) v))
        (λ t. by x (filter q (filter p xs)) (q x) (q (x - at)) (alike x t) ∙ ap (λ v. cond (q (x - at)) ((x - at) ∷ v) v) (each xs)) (λ _. each xs)

document_less : (at x : ℕ) → at ≤ position_of x → document_of (x - at) ≡ document_of x
document_less at x l = omega arith

pub starts_passed : (ids : List ℕ) (lists : List (List ℕ)) (at id : ℕ) (old new : List ℕ) → new ≡ filter (λ x. ltb id (document_of x)) old
    → starts_at ids lists at new ≡ filter (λ x. ltb id (document_of x)) (starts_at ids lists at old)
starts_passed ids lists at id old new e =
    let q : ℕ → Bool = λ x. ltb id (document_of x) in
    ap (starts_at ids lists at) e
    ∙ ap (λ v. map (λ x. x - at) (filter (is_around lists at) v)) (filter_swap (is_inside ids) q old)
    ∙ filter_less at (is_around lists at) q (λ x t. ap (ltb id) (document_less at x (leb-true at (position_of x) (left_true _ _ t)))) (filter (is_inside ids) old)

-- ---- the starts by the entries of one word
module _ (ids : List ℕ) (lists : List (List ℕ)) (at : ℕ) (here : at < length lists) (list : List ℕ) (is : list ≡ get_or lists at []) where
  shuffled : (a b c : Bool) → ((a && b) && c) ≡ (b && (c && a))
  shuffled true true c = turned_end c
    where
      turned_end : (c : Bool) → c ≡ (c && true)
      turned_end true = refl
      turned_end false = refl
  shuffled true false c = refl
  shuffled false true true = refl
  shuffled false true false = refl
  shuffled false false c = refl

  and_false : (a : Bool) → (a && false) ≡ false
  and_false true = refl
  and_false false = refl

  minus_plus : (s : ℕ) → (s + at) - at ≡ s
  minus_plus s = omega arith

  inside_path : (s : ℕ) → position_of s + length lists ≤ 2 ^ 16 → document_of (s + at) ≡ document_of s
  inside_path s l = omega arith

  low_enough : (s : ℕ) → position_of s + length lists ≤ 2 ^ 16 → at ≤ position_of (s + at)
  low_enough s l = omega arith

  around_start : (s : ℕ) → ((has list (s + at) && is_inside ids (s + at)) && is_around lists at (s + at)) ≡ (is_inside ids s && is_start lists s)
  around_start s = by (is_within (length lists) s) refl
    where
      by : (b : Bool) → is_within (length lists) s ≡ b → ((has list (s + at) && is_inside ids (s + at)) && is_around lists at (s + at)) ≡ (is_inside ids s && is_start lists s)
      by true t =
          let l = leb-true (position_of s + length lists) (2 ^ 16) t in
          let same : is_inside ids (s + at) ≡ is_inside ids s = ap (has ids) (inside_path s l) in
          let around : is_around lists at (s + at) ≡ stand_beside at 0 lists s =
          ap₂ (λ a n. a && (is_within (length lists) n && stand_beside at 0 lists n)) (le-leb at (position_of (s + at)) (low_enough s l)) (minus_plus s)
          ∙ ap (λ a. a && stand_beside at 0 lists s) t in
          let start : is_start lists s ≡ (stand_beside at 0 lists s && has list (s + at)) =
          ap (λ a. a && stand_all 0 lists s) t ∙ all_split at at 0 lists s (omega arith) here ∙ ap (λ v. stand_beside at 0 lists s && has v (s + at)) (sym is) in
          ap₂ (λ a b. (has list (s + at) && a) && b) same around
          ∙ shuffled (has list (s + at)) (is_inside ids s) (stand_beside at 0 lists s) ∙ ap (λ a. is_inside ids s && a) (sym start)
      by false f =
          let around : is_around lists at (s + at) ≡ false =
          ap (λ n. leb at (position_of (s + at)) && (is_within (length lists) n && stand_beside at 0 lists n)) (minus_plus s)
          ∙ ap (λ a. leb at (position_of (s + at)) && (a && stand_beside at 0 lists s)) f ∙ and_false (leb at (position_of (s + at))) in
          ap (λ a. (has list (s + at) && is_inside ids (s + at)) && a) around
          ∙ and_false (has list (s + at) && is_inside ids (s + at)) ∙ sym (and_false (is_inside ids s)) ∙ ap (λ a. is_inside ids s && (a && stand_all 0 lists s)) (sym f)

  pub are_starts : IsIncreasing list → AreStarts ids lists (starts_at ids lists at list)
  are_starts up = record {
    up = increasing_less at (is_around lists at) (around_low lists at) (filter (is_inside ids) list) (increasing-filter (is_inside ids) list up);
    each = λ s.
        has_less at (is_around lists at) (around_low lists at) (filter (is_inside ids) list) s
        ∙ has-filter (is_around lists at) (filter (is_inside ids) list) (s + at)
        ∙ ap (λ a. a && is_around lists at (s + at)) (has-filter (is_inside ids) list (s + at))
        ∙ around_start s;
  }

-- ---- one list
within_one : (entry : ℕ) → entry % 2 ^ 16 + 1 ≤ 2 ^ 16
within_one entry = omega arith

pub is_start_one : (list : List ℕ) (entry : ℕ) → is_start (list ∷ []) entry ≡ has list entry
is_start_one list entry =
    ap₂ (λ a n. a && (has list n && true)) (le-leb (position_of entry + 1) (2 ^ 16) (within_one entry)) (let e : entry + 0 ≡ entry = omega arith in e) ∙ and_true (has list entry)
  where
    and_true : (b : Bool) → (b && true) ≡ b
    and_true true = refl
    and_true false = refl

-- the starts of one list are its entries
pub starts_in_list : (ids list : List ℕ) (lists : List (List ℕ)) → lists ≡ list ∷ [] → IsIncreasing list → AreStarts ids lists (filter (is_inside ids) list)
starts_in_list ids list lists one up = record {
  up = increasing-filter (is_inside ids) list up;
  each = λ entry.
      has-filter (is_inside ids) list entry ∙ turned (has list entry) (is_inside ids entry)
      ∙ ap (λ b. is_inside ids entry && b) (sym (ap (λ l. is_start l entry) one ∙ is_start_one list entry));
}
