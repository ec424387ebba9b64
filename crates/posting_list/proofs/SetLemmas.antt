-- Sets of the documents of entries that pass a test.
use Rattle.std.proofs.Common.{◌≡◌, ℕ, ◌<◌, ◌≤◌, ◌*◌, ◌/◌, ◌^◌, Bool, true, false, not, ◌&&◌, ◌||◌, cond, List, [], ◌∷◌, ◌++◌, length, get_or, take, ◌+◌, add-one, eqb, leb, refl, sym, ap, ap₂, subst, ◌∙◌, arith}
use Rattle.std.specs.List.{filter, list_any, AllByRecursion}
use Rattle.std.proofs.Math.Seq.{take-suc}
use Rattle.std.proofs.lemmas.List.{get_or_default}
use Rattle.std.proofs.lemmas.List.Folds.{list_any-append}
use Rattle.std.proofs.lemmas.Bool.{cond_both, eqb-true, eqb-false, eq-eqb, ne_eqb, leb-true, leb-false, or_left, or_right, false_from_ne_true}
use Rattle.std.specs.Cmp.{both_ways}
use Rattle.sorted_pages.specs.Entries.{has, AreAbove}
use Rattle.posting_list.specs.Sets.{has_document, has_passing, IsSetOfPassing, AreAfter}

-- one entry more of the first entries
pub take_one_more : {X : Type 0} (xs : List X) (i : ℕ) (x : X) → i < length xs → x ≡ get_or xs i x → take (i + 1) xs ≡ take i xs ++ x ∷ []
take_one_more xs i x inside is = ap (λ n. take n xs) (add-one i) ∙ take-suc xs i x inside ∙ ap (λ y. take i xs ++ y ∷ []) (sym is)

pub either_true : {P : Type 0} (a b : Bool) → (a || b) ≡ true → (a ≡ true → P) → (b ≡ true → P) → P
either_true true b h f g = f refl
either_true false b h f g = g h

both_true : (a b : Bool) → (a && b) ≡ true → (a ≡ true) × (b ≡ true)
both_true true b h = (refl, h)
both_true false b h = absurd (cc)

-- ---- one of the entries passes

module _ (t : ℕ → Bool) where
  found : (xs : List ℕ) → list_any t xs ≡ true → (e : ℕ) × (has xs e ≡ true) × (t e ≡ true)
  found [] h = absurd (cc)
  found (x ∷ xs) h = either_true (t x) (list_any t xs) h
      (λ here. (x, ap (λ b. b || has xs x) (eq-eqb x x refl), here))
      (λ there. let e = found xs there in (e.0, or_right (eqb x e.0) _ e.1, e.2))

  from : (xs : List ℕ) (e : ℕ) → has xs e ≡ true → t e ≡ true → list_any t xs ≡ true
  from [] e h s = absurd (cc)
  from (x ∷ xs) e h s = either_true (eqb x e) (has xs e) h
      (λ here. or_left (t x) _ (ap t (eqb-true x e here) ∙ s))
      (λ there. or_right (t x) _ (from xs e there s))

  -- one entry more
  pub taken : (xs : List ℕ) (i : ℕ) → i < length xs → list_any t (take (i + 1) xs) ≡ (list_any t (take i xs) || t (get_or xs i 0))
  taken xs i inside =
      let x = get_or xs i 0 in
      ap (list_any t) (take_one_more xs i x inside (get_or_default xs i 0 x inside))
      ∙ list_any-append t (take i xs) (x ∷ []) ∙ ap (λ b. list_any t (take i xs) || b) (alone (t x))
    where
      alone : (b : Bool) → (b || false) ≡ b
      alone true = refl
      alone false = refl

  -- ---- the set after the change of a list: what it had, with what came and without what went and has no entry left

  pub one_after : (gone come old new : List ℕ) → AreAfter gone come old new → (first more last : Bool) → first ≡ list_any t old
      → more ≡ (list_any t come || first) → last ≡ (more && (not (list_any t gone) || list_any t new)) → last ≡ list_any t new
  one_after gone come old new after first more last was came went = went ∙ both_ways _ (list_any t new) there back
    where
      stays : (e : ℕ) → (has come e || has old e) ≡ true → t e ≡ true → list_any t gone ≡ false → list_any t new ≡ true
      stays e h s none = from new e
          (after e ∙ ap₂ (λ a b. a && not b) h (false_from_ne_true (has gone e) (λ g. let d = from gone e g s in cc))) s

      left : list_any t gone ≡ false → (list_any t come || first) ≡ true → list_any t new ≡ true
      left none h = either_true (list_any t come) first h
          (λ c. let e = found come c in stays e.0 (or_left (has come e.0) _ e.1) e.2 none)
          (λ f. let e = found old (sym was ∙ f) in stays e.0 (or_right (has come e.0) _ e.1) e.2 none)

      there : (more && (not (list_any t gone) || list_any t new)) ≡ true → list_any t new ≡ true
      there h = let both = both_true more _ h in either_true (not (list_any t gone)) (list_any t new) both.1
          (λ n. left (by (list_any t gone) n) (sym came ∙ both.0)) (λ s. s)
        where
          by : (b : Bool) → not b ≡ true → b ≡ false
          by true h = absurd (cc)
          by false h = refl

      back : list_any t new ≡ true → (more && (not (list_any t gone) || list_any t new)) ≡ true
      back s =
          let e = found new s in
          let kept = both_true (has come e.0 || has old e.0) (not (has gone e.0)) (sym (after e.0) ∙ e.1) in
          let in_more : more ≡ true = came ∙ either_true (has come e.0) (has old e.0) kept.0
          (λ c. or_left (list_any t come) _ (from come e.0 c e.2))
          (λ o. or_right (list_any t come) _ (was ∙ from old e.0 o e.2)) in
          ap₂ (λ a b. a && b) in_more (or_right (not (list_any t gone)) _ s)

-- ---- a document more that comes, or that goes where none of its entries stays

pub put_more : (t e first : Bool) → (e || (t || first)) ≡ ((t || e) || first)
put_more true true first = refl
put_more true false first = refl
put_more false true first = refl
put_more false false first = refl

-- one that is not of the part
pub put_none : (t e p first : Bool) → p ≡ false → (t || first) ≡ ((t || (e && p)) || first)
put_none true e p first h = refl
put_none false true p first h = ap (λ b. b || first) (sym h)
put_none false false p first h = refl

pub out_more : (first t e l : Bool) → ((first && (not t || l)) && (not e || l)) ≡ (first && (not (t || e) || l))
out_more false t e l = refl
out_more true true true true = refl
out_more true true true false = refl
out_more true true false true = refl
out_more true true false false = refl
out_more true false e l = refl

-- a document that goes, since it has no entry in the list, or stays, since it has one
pub is_out : (a e p l : Bool) → p ≡ true → (e ≡ true → l ≡ false) → (a && not e) ≡ (a && (not (e && p) || l))
is_out false e p l is h = refl
is_out true true p l is h = sym (ap₂ (λ b c. not b || c) is (h refl))
is_out true false p l is h = refl

pub is_kept : (a e p l : Bool) → (e ≡ true → p ≡ true → l ≡ true) → a ≡ (a && (not (e && p) || l))
is_kept false e p l h = refl
is_kept true true true l h = sym (h refl refl)
is_kept true true false l h = refl
is_kept true false p l h = refl

pub with_true : (b : Bool) → (b && true) ≡ b
with_true true = refl
with_true false = refl

pub with_pass : (b p : Bool) → p ≡ true → b ≡ (b && p)
with_pass true p h = sym h
with_pass false p h = refl

-- all entries pass
pub all_pass : (xs : List ℕ) (id : ℕ) → has_passing (λ e. true) xs id ≡ has_document xs id
all_pass [] id = refl
all_pass (x ∷ xs) id = ap₂ (λ a b. a || b) (with_true (eqb (x / 2 ^ 32) id)) (all_pass xs id)

-- ---- the entries from the first one on that a document may have

abbrev pub AreFrom : ℕ → List ℕ → Type 0
AreFrom id xs = AllByRecursion (λ x. id * 2 ^ 32 ≤ x) xs

pub are_from : (id least : ℕ) (xs : List ℕ) → least ≡ id * 2 ^ 32 → AreFrom id (filter (λ x. leb least x) xs)
are_from id least [] is = tt
are_from id least (x ∷ xs) is = cond_both (leb least x) (x ∷ filter (λ x. leb least x) xs) (filter (λ x. leb least x) xs) (AreFrom id)
    (λ t. (subst (λ n. n ≤ x) is (leb-true least x t), are_from id least xs is)) (λ f. are_from id least xs is)

pub none_before : (p : ℕ → Bool) (id least : ℕ) (xs : List ℕ) → least ≡ id * 2 ^ 32
    → has_passing p (filter (λ x. leb least x) xs) id ≡ has_passing p xs id
none_before p id least [] is = refl
none_before p id least (x ∷ xs) is = by (leb least x) refl (none_before p id least xs is)
  where
    t : ℕ → Bool
    t e = eqb (e / 2 ^ 32) id && p e

    low : leb least x ≡ false → t x ≡ false
    low f = ap (λ b. b && p x) (ne_eqb (x / 2 ^ 32) id (λ same. let below : x < least = leb-false least x f in omega arith))

    by : (b : Bool) → leb least x ≡ b → list_any t (filter (λ x. leb least x) xs) ≡ list_any t xs
        → list_any t (cond b (x ∷ filter (λ x. leb least x) xs) (filter (λ x. leb least x) xs)) ≡ (t x || list_any t xs)
    by true e same = ap (λ b. t x || b) same
    by false e same = same ∙ sym (ap (λ b. b || list_any t xs) (low e))

-- an entry behind those of the document has none behind it
pub none_behind : (p : ℕ → Bool) (id x : ℕ) (xs : List ℕ) → AreAbove x xs → id < x / 2 ^ 32 → has_passing p xs id ≡ false
none_behind p id x [] above low = refl
none_behind p id x (y ∷ ys) above low =
    ap₂ (λ a b. a || b) (ap (λ b. b && p y) (ne_eqb (y / 2 ^ 32) id (λ same. let more = above.0 in omega arith))) (none_behind p id x ys above.1 low)

pub is_behind : (p : ℕ → Bool) (id x : ℕ) (xs : List ℕ) → AreAbove x xs → id * 2 ^ 32 ≤ x → eqb (x / 2 ^ 32) id ≡ false → has_passing p (x ∷ xs) id ≡ false
is_behind p id x xs above low apart =
    ap₂ (λ a b. a || b) (ap (λ b. b && p x) apart) (none_behind p id x xs above (let ne = eqb-false (x / 2 ^ 32) id apart in omega arith))

-- where no document has an entry that passes, none does
pub none_passes : (p : ℕ → Bool) (xs ids : List ℕ) → IsSetOfPassing p ids xs → length ids ≡ 0 → (e : ℕ) → has xs e ≡ true → p e ≡ false
none_passes p xs [] of none e there = false_from_ne_true (p e) (λ t.
    let passes = from (λ x. eqb (x / 2 ^ 32) (e / 2 ^ 32) && p x) xs e there (ap₂ (λ a b. a && b) (eq-eqb (e / 2 ^ 32) (e / 2 ^ 32) refl) t) in
    let fails = of (e / 2 ^ 32) in cc)
none_passes p xs (i ∷ ids) of none e there = absurd (omega arith)
