-- Sets of documents by number.
use Rattle.std.proofs.Common.{◌≡◌, ℕ, zero, suc, ◌+◌, ◌<◌, ◌≤◌, ◌≢◌, Bool, true, false, not, ◌&&◌, ◌||◌, inl, inr, cond, List, [], ◌∷◌, ◌++◌, length, get_or, set, take, eqb, Result, Ok, Err, OnOk, refl, sym, ap, ap₂, subst, ◌∙◌, arith}
use Rattle.std.specs.List.{list_any}
use Rattle.std.proofs.lemmas.List.{nil_from_length, length-append, get_or-set_same, get_or-set_other}
use Rattle.std.proofs.lemmas.List.Folds.{list_any-append}
use Rattle.std.proofs.lemmas.Bool.{cond-true, cond-false, cond_both, cases_lt, eqb-true, eqb-false, eq-eqb, ne_eqb}
use Rattle.doc_sets.specs.Sets.{has, with_id, union, difference, IsIncreasing}
use Rattle.doc_sets.proofs.SetLemmas.{has-with_id, has-filter, has-union}
use Rattle.doc_sets.specs.SetView.{SetView}
use Rattle.posting_sets.specs.Numbers.{set_at, NumbersAbove, NumbersIncrease, NoneEmpty}
use Rattle.posting_sets.specs.Gathered.{ids_at, is_below, AreLeast, AddsRow, NumbersBelow}

get_or_in : {X : Type 0} (xs : List X) (i : ℕ) (d e : X) → i < length xs → get_or xs i d ≡ get_or xs i e
get_or_in [] i d e l = absurd (omega arith)
get_or_in (x ∷ xs) zero d e l = refl
get_or_in (x ∷ xs) (suc i) d e l = get_or_in xs i d e (omega arith)

-- one more document at a number
pub one_more : (sets : List (List ℕ)) (at id : ℕ) (old new : List ℕ) → at < length sets → old ≡ get_or sets at old → new ≡ with_id id old
    → (n q : ℕ) → has (ids_at n (set sets at new)) q ≡ ((eqb at n && eqb id q) || has (ids_at n sets) q)
one_more sets at id old new l is e n q = by (eqb at n) refl
  where
    by : (b : Bool) → eqb at n ≡ b → has (ids_at n (set sets at new)) q ≡ ((eqb at n && eqb id q) || has (ids_at n sets) q)
    by true t =
        let same : at ≡ n = eqb-true at n t in
        ap (λ i. has (ids_at i (set sets at new)) q) (sym same)
        ∙ ap (λ v. has v q) (get_or-set_same sets at new [] l ∙ e) ∙ has-with_id id q old
        ∙ ap₂ (λ a v. (a && eqb id q) || has v q) (sym t) (is ∙ get_or_in sets at old [] l ∙ ap (λ i. ids_at i sets) same)
    by false f =
        let apart : n ≢ at = λ s. eqb-false at n f (sym s) in
        ap (λ v. has v q) (get_or-set_other sets at n new [] apart) ∙ ap (λ a. (a && eqb id q) || has (ids_at n sets) q) (sym f)

-- the set of a number with more in it
pub one_changed : (sets : List (List ℕ)) (at : ℕ) (old new : List ℕ) (q : ℕ) (more : Bool) → at < length sets → old ≡ get_or sets at old → has new q ≡ (more || has old q)
    → (n : ℕ) → has (ids_at n (set sets at new)) q ≡ ((eqb at n && more) || has (ids_at n sets) q)
one_changed sets at old new q more l is e n = by (eqb at n) refl
  where
    by : (b : Bool) → eqb at n ≡ b → has (ids_at n (set sets at new)) q ≡ ((eqb at n && more) || has (ids_at n sets) q)
    by true t =
        let same : at ≡ n = eqb-true at n t in
        ap (λ i. has (ids_at i (set sets at new)) q) (sym same)
        ∙ ap (λ v. has v q) (get_or-set_same sets at new [] l) ∙ e
        ∙ ap₂ (λ a v. (a && more) || has v q) (sym t) (is ∙ get_or_in sets at old [] l ∙ ap (λ i. ids_at i sets) same)
    by false f =
        let apart : n ≢ at = λ s. eqb-false at n f (sym s) in
        ap (λ v. has v q) (get_or-set_other sets at n new [] apart) ∙ ap (λ a. (a && more) || has (ids_at n sets) q) (sym f)

pub on_ok : {X E P Q : Type 0} (r : Result X E) → OnOk r P → (P → Q) → OnOk r Q
on_ok (Ok x) p f = f p
on_ok (Err e) p f = tt

-- ---- one more row
set_at_none : (k n : ℕ) (rows : List (ℕ × SetView)) → NumbersBelow k rows → k ≤ n → set_at n rows ≡ []
set_at_none k n [] below l = refl
set_at_none k n (row ∷ rows) below l = cond-false _ _ _ (ne_eqb row.0 n (λ e. let m = below.0 in omega arith)) ∙ set_at_none k n rows below.1 l

set_at_push : (k n : ℕ) (rows : List (ℕ × SetView)) (set : SetView) → NumbersBelow k rows → set_at n (rows ++ (k, set) ∷ []) ≡ cond (eqb k n) set.ids (set_at n rows)
set_at_push k n [] set below = refl
set_at_push k n (row ∷ rows) set below = by (eqb row.0 n) refl (set_at_push k n rows set below.1)
  where
    by : (b : Bool) → eqb row.0 n ≡ b → set_at n (rows ++ (k, set) ∷ []) ≡ cond (eqb k n) set.ids (set_at n rows)
        → cond b row.1.ids (set_at n (rows ++ (k, set) ∷ [])) ≡ cond (eqb k n) set.ids (cond b row.1.ids (set_at n rows))
    by true e again = sym (cond-false _ _ _ (ne_eqb k n (λ s. let m = below.0 in let t = eqb-true row.0 n e in omega arith)))
    by false e again = again

row_at : (k n : ℕ) (old new : List (ℕ × SetView)) (ids : List ℕ) → NumbersBelow k old → AddsRow old new k ids → set_at n new ≡ cond (eqb k n) ids (set_at n old)
row_at k n old new [] below add =
    ap (set_at n) add ∙ cond_both (eqb k n) [] (set_at n old) (λ v. set_at n old ≡ v)
    (λ e. set_at_none k n old below (let t = eqb-true k n e in omega arith)) (λ _. refl)
row_at k n old new (id ∷ ids) below add =
    ap (set_at n) add.1 ∙ set_at_push k n old add.0 below ∙ ap (λ v. cond (eqb k n) v (set_at n old)) add.2

above_push : (a k : ℕ) (rows : List (ℕ × SetView)) (set : SetView) → NumbersAbove a rows → a < k → NumbersAbove a (rows ++ (k, set) ∷ [])
above_push a k [] set above l = (l, tt)
above_push a k (row ∷ rows) set above l = (above.0, above_push a k rows set above.1 l)

up_push : (k : ℕ) (rows : List (ℕ × SetView)) (set : SetView) → NumbersIncrease rows → NumbersBelow k rows → NumbersIncrease (rows ++ (k, set) ∷ [])
up_push k [] set up below = (tt, tt)
up_push k (row ∷ rows) set up below = (above_push row.0 k rows set up.0 below.0, up_push k rows set up.1 below.1)

some_push : (k : ℕ) (rows : List (ℕ × SetView)) (set : SetView) → NoneEmpty rows → set.ids ≢ [] → NoneEmpty (rows ++ (k, set) ∷ [])
some_push k [] set some apart = (apart, tt)
some_push k (row ∷ rows) set some apart = (some.0, some_push k rows set some.1 apart)

below_more : (k : ℕ) (rows : List (ℕ × SetView)) → NumbersBelow k rows → NumbersBelow (k + 1) rows
below_more k [] below = tt
below_more k (row ∷ rows) below = ((let l = below.0 in omega arith), below_more k rows below.1)

below_push : (k : ℕ) (rows : List (ℕ × SetView)) (set : SetView) → NumbersBelow k rows → NumbersBelow (k + 1) (rows ++ (k, set) ∷ [])
below_push k [] set below = (omega arith, tt)
below_push k (row ∷ rows) set below = ((let l = below.0 in omega arith), below_push k rows set below.1)

ids_before : (sets : List (List ℕ)) (set : List ℕ) (n : ℕ) → n < length sets → ids_at n (sets ++ set ∷ []) ≡ ids_at n sets
ids_before [] set n l = absurd (omega arith)
ids_before (s ∷ ss) set zero l = refl
ids_before (s ∷ ss) set (suc n) l = ids_before ss set n (omega arith)

ids_last : (sets : List (List ℕ)) (set : List ℕ) (n : ℕ) → n ≡ length sets → ids_at n (sets ++ set ∷ []) ≡ set
ids_last [] set zero e = refl
ids_last [] set (suc n) e = absurd (omega arith)
ids_last (s ∷ ss) set zero e = absurd (omega arith)
ids_last (s ∷ ss) set (suc n) e = ids_last ss set n (omega arith)

ids_past : (sets : List (List ℕ)) (set : List ℕ) (n : ℕ) → length sets < n → ids_at n (sets ++ set ∷ []) ≡ []
ids_past [] set zero l = absurd (omega arith)
ids_past [] set (suc n) l = refl
ids_past (s ∷ ss) set zero l = absurd (omega arith)
ids_past (s ∷ ss) set (suc n) l = ids_past ss set n (omega arith)

take_before : (sets : List (List ℕ)) (set : List ℕ) (n : ℕ) → n ≤ length sets → take n (sets ++ set ∷ []) ≡ take n sets
take_before [] set zero l = refl
take_before [] set (suc n) l = absurd (omega arith)
take_before (s ∷ ss) set zero l = refl
take_before (s ∷ ss) set (suc n) l = ap (λ v. s ∷ v) (take_before ss set n (omega arith))

take_whole : (sets : List (List ℕ)) (n : ℕ) → n ≡ length sets → take n sets ≡ sets
take_whole [] zero e = refl
take_whole [] (suc n) e = refl
take_whole (s ∷ ss) zero e = absurd (omega arith)
take_whole (s ∷ ss) (suc n) e = ap (λ v. s ∷ v) (take_whole ss n (omega arith))

module _ (done : List (List ℕ)) (set seen : List ℕ) (old new : List (ℕ × SetView)) (least : AreLeast done old) (below : NumbersBelow (length done) old)
    (saw : (id : ℕ) → has seen id ≡ list_any (λ s. has s id) done) (adds : AddsRow old new (length done) (difference set seen)) (rise : IsIncreasing (difference set seen)) where
  at_number : (n : ℕ) → set_at n new ≡ cond (eqb (length done) n) (difference set seen) (set_at n old)
  at_number n = row_at (length done) n old new (difference set seen) below adds

  each_more : (n id : ℕ) → has (set_at n new) id ≡ (has (ids_at n (done ++ set ∷ [])) id && not (is_below n id (done ++ set ∷ [])))
  each_more n id = elim (cases_lt n (length done)) [
    | inl less ↦
        ap (λ v. has v id) (at_number n ∙ cond-false _ _ _ (ne_eqb (length done) n (λ e. omega arith))) ∙ least.each n id
        ∙ ap₂ (λ v w. has v id && not (list_any (λ s. has s id) w)) (sym (ids_before done set n less)) (sym (take_before done set n (omega arith)))
    | inr more ↦ elim (cases_lt (length done) n) [
      | inl past ↦
          ap (λ v. has v id) (at_number n ∙ cond-false _ _ _ (ne_eqb (length done) n (λ e. omega arith)) ∙ set_at_none (length done) n old below (omega arith))
          ∙ ap (λ v. has v id && not (is_below n id (done ++ set ∷ []))) (sym (ids_past done set n past))
      | inr here ↦
          let same : n ≡ length done = omega arith in
          ap (λ v. has v id) (at_number n ∙ cond-true _ _ _ (eq-eqb (length done) n (sym same)))
          ∙ has-filter (λ d. not (has seen d)) set id
          ∙ ap₂ (λ v b. has v id && not b) (sym (ids_last done set n same))
          (saw id ∙ ap (list_any (λ s. has s id)) (sym (take_before done set n (omega arith) ∙ take_whole done n same)))
    ]
  ]

  sorted_more : (n : ℕ) → IsIncreasing (set_at n new)
  sorted_more n = subst IsIncreasing (sym (at_number n)) (cond_both (eqb (length done) n) (difference set seen) (set_at n old) IsIncreasing (λ _. rise) (λ _. least.sorted n))

  pushed : (ids : List ℕ) → AddsRow old new (length done) ids → NumbersIncrease new × NoneEmpty new × NumbersBelow (length done + 1) new
  pushed [] add =
      (subst NumbersIncrease (sym add) least.up, subst NoneEmpty (sym add) least.some, subst (NumbersBelow (length done + 1)) (sym add) (below_more (length done) old below))
  pushed (i ∷ is) add = (
    subst NumbersIncrease (sym add.1) (up_push (length done) old add.0 least.up below),
    subst NoneEmpty (sym add.1) (some_push (length done) old add.0 least.some (λ e. (let s = add.2 in cc))),
    subst (NumbersBelow (length done + 1)) (sym add.1) (below_push (length done) old add.0 below),
  )

  pub least_more : AreLeast (done ++ set ∷ []) new
  least_more = let all = pushed (difference set seen) adds in record { up = all.0; some = all.1; sorted = sorted_more; each = each_more }

  pub numbers_below : NumbersBelow (length (done ++ set ∷ [])) new
  numbers_below = subst (λ k. NumbersBelow k new) (sym (length-append done (set ∷ []))) (pushed (difference set seen) adds).2

-- what was seen, and what a set has beside it
fresh_or : (a b : Bool) → (a || (b && not a)) ≡ (a || b)
fresh_or true b = refl
fresh_or false true = refl
fresh_or false false = refl

pub seen_more : (set seen : List ℕ) (id : ℕ) → has (union seen (difference set seen)) id ≡ (has seen id || has set id)
seen_more set seen id =
    has-union seen (difference set seen) id ∙ ap (λ b. has seen id || b) (has-filter (λ d. not (has seen d)) set id) ∙ fresh_or (has seen id) (has set id)

pub seen_all : (set seen : List ℕ) (id : ℕ) → length (difference set seen) ≡ 0 → has seen id ≡ (has seen id || has set id)
seen_all set seen id none =
    or_none (has seen id) ∙ ap (λ v. has seen id || has v id) (sym (nil_from_length (difference set seen) none))
    ∙ ap (λ b. has seen id || b) (has-filter (λ d. not (has seen d)) set id) ∙ fresh_or (has seen id) (has set id)
  where
    or_none : (a : Bool) → a ≡ (a || false)
    or_none true = refl
    or_none false = refl

-- the documents that were seen, by one more set
pub seen_pushed : (done : List (List ℕ)) (set seen new : List ℕ) → ((id : ℕ) → has seen id ≡ list_any (λ s. has s id) done)
    → ((id : ℕ) → has new id ≡ (has seen id || has set id)) → (id : ℕ) → has new id ≡ list_any (λ s. has s id) (done ++ set ∷ [])
seen_pushed done set seen new saw more id =
    more id ∙ ap₂ (λ a b. a || b) (saw id) (or_none (has set id)) ∙ sym (list_any-append (λ s. has s id) done (set ∷ []))
  where
    or_none : (a : Bool) → a ≡ (a || false)
    or_none true = refl
    or_none false = refl
