-- A walk over the entries of the documents of a set.
use Rattle.std.proofs.Common.{◌≡◌, ℕ, ◌-◌, ◌<◌, ◌≤◌, Bool, true, false, ◌&&◌, ◌||◌, inl, inr, cond, List, [], ◌∷◌, drop, length, None, Some, eqb, ltb, refl, sym, ap, subst, ◌∙◌, arith}
use Rattle.std.specs.List.{filter, slice_get}
use Rattle.std.proofs.lemmas.Bool.{cond-true, cond-false, cond_both, eqb-true, eq-eqb, ltb-true, lt-ltb, le-ltb, false_from_ne_true, cases_lt}
use Rattle.sorted_pages.specs.Entries.{has, AreAbove, IsIncreasing}
use Rattle.sorted_pages.proofs.SetLemmas.{has-above, has-filter, increasing-filter}
use Rattle.posting_sets.specs.Entries.{document_of}
use Rattle.posting_sets.specs.Starts.{is_inside}

-- ---- the first of a list
pub first_is : (xs : List ℕ) (x : ℕ) → Some x ≡ slice_get xs 0 → xs ≡ x ∷ drop 1 xs
first_is [] x e = absurd (cc)
first_is (y ∷ ys) x e = let same : x ≡ y = cc in ap (λ v. v ∷ ys) (sym same)

pub none_left : (xs : List ℕ) → None ≡ slice_get xs 0 → xs ≡ []
none_left [] e = refl
none_left (y ∷ ys) e = absurd (cc)

-- the first of an increasing list is its least
pub least_of : (ms : List ℕ) (n q : ℕ) → IsIncreasing ms → Some n ≡ slice_get ms 0 → has ms q ≡ true → n ≤ q
least_of [] n q up e t = absurd (cc)
least_of (m ∷ ms) n q up e t =
    let same : n ≡ m = cc in
    by (eqb m q) refl t same
  where
    by : (b : Bool) → eqb m q ≡ b → (b || has ms q) ≡ true → n ≡ m → n ≤ q
    by true s t same = omega (arith, eqb-true m q s)
    by false s t same = elim (cases_lt q n) [ inl l ↦ absurd (let none = has-above m q ms up.0 (omega arith) in cc) | inr l ↦ l ]

pub shorter_filter : (q : ℕ → Bool) (xs : List ℕ) → length (filter q xs) ≤ length xs
shorter_filter q [] = omega arith
shorter_filter q (x ∷ xs) = let again = shorter_filter q xs in
    cond_both (q x) (x ∷ filter q xs) (filter q xs) (λ v. length v ≤ length (x ∷ xs)) (λ _. omega arith) (λ _. omega arith)

module _ (ids : List ℕ) (up : IsIncreasing ids) where
  abbrev above_of : ℕ → List ℕ
  above_of d = filter (ltb d) ids

  among_above : (d q : ℕ) → has ids q ≡ true → d < q → has (above_of d) q ≡ true
  among_above d q t l = has-filter (ltb d) ids q ∙ both (has ids q) (ltb d q) t (lt-ltb d q l)
    where
      both : (a b : Bool) → a ≡ true → b ≡ true → (a && b) ≡ true
      both true b h k = k
      both false b h k = h

  -- the least of the set that is above a document outside of it
  pub next_least : (d n q : ℕ) → Some n ≡ slice_get (above_of d) 0 → has ids q ≡ true → d < q → n ≤ q
  next_least d n q e t l = least_of (above_of d) n q (increasing-filter (ltb d) ids up) e (among_above d q t l)

  pub none_above : (d q : ℕ) → None ≡ slice_get (above_of d) 0 → has ids q ≡ true → d < q → ⊥
  none_above d q e t l = let none = none_left (above_of d) e in let there = among_above d q t l in cc

  pub next_above : (d n : ℕ) → Some n ≡ slice_get (above_of d) 0 → d < n
  next_above d n e =
      let there : has (above_of d) n ≡ true = ap (λ v. has v n) (first_is (above_of d) n e) ∙ ap (λ b. b || has (drop 1 (above_of d)) n) (eq-eqb n n refl) in
      ltb-true d n (second (has ids n) (ltb d n) (sym (has-filter (ltb d) ids n) ∙ there))
    where
      second : (a b : Bool) → (a && b) ≡ true → b ≡ true
      second true b h = h
      second false b h = absurd (cc)

  -- what is kept of entries above one
  kept_above : (p q : ℕ → Bool) (a : ℕ) (xs : List ℕ) → AreAbove a xs → ((x : ℕ) → a < x → p x ≡ true → q x ≡ true) → filter p (filter q xs) ≡ filter p xs
  kept_above p q a [] above h = refl
  kept_above p q a (x ∷ xs) above h =
      let again = kept_above p q a xs above.1 h in
      cond_both (q x) (x ∷ filter q xs) (filter q xs) (λ v. filter p v ≡ filter p (x ∷ xs))
      (λ _. ap (λ v. cond (p x) (x ∷ v) v) again)
      (λ e. again ∙ sym (cond-false (p x) _ _ (false_from_ne_true (p x) (λ t. let u = h x above.0 t in cc))))

  -- the first entry is of a document outside of the set
  module _ (xs : List ℕ) (x d : ℕ) (rise : IsIncreasing xs) (first : Some x ≡ slice_get xs 0) (doc : d ≡ document_of x) (out : has ids d ≡ false) where
    abbrev later : List ℕ
    later = drop 1 xs

    whole : xs ≡ x ∷ later
    whole = first_is xs x first

    above : AreAbove x later
    above = (subst IsIncreasing whole rise).0

    fails : is_inside ids x ≡ false
    fails = ap (has ids) (sym doc) ∙ out

    beyond : (y : ℕ) → x < y → is_inside ids y ≡ true → d < document_of y
    beyond y l t =
        let apart : d ≡ document_of y → ⊥ = λ e. (let s = ap (has ids) e in cc) in
        omega (arith, doc, apart)

    pub skipped : (n : ℕ) → Some n ≡ slice_get (above_of d) 0 → filter (is_inside ids) (filter (λ e. ltb (n - 1) (document_of e)) xs) ≡ filter (is_inside ids) xs
    skipped n e =
        let q : ℕ → Bool = λ e. ltb (n - 1) (document_of e) in
        let rest = kept_above (is_inside ids) q x later above
        (λ y l t. lt-ltb (n - 1) (document_of y) (let m = next_least d n (document_of y) e t (beyond y l t) in let k = next_above d n e in omega arith)) in
        ap (λ v. filter (is_inside ids) (filter q v)) whole
        ∙ cond_both (q x) (x ∷ filter q later) (filter q later) (λ v. filter (is_inside ids) v ≡ filter (is_inside ids) later)
        (λ _. cond-false (is_inside ids x) _ _ fails ∙ rest) (λ _. rest)
        ∙ sym (cond-false (is_inside ids x) _ _ fails) ∙ ap (filter (is_inside ids)) (sym whole)

    pub shorter : (n : ℕ) → Some n ≡ slice_get (above_of d) 0 → length (filter (λ e. ltb (n - 1) (document_of e)) xs) < length xs
    shorter n e =
        let q : ℕ → Bool = λ e. ltb (n - 1) (document_of e) in
        let k = next_above d n e in
        let gone : q x ≡ false = le-ltb (n - 1) (document_of x) (omega (arith, doc)) in
        let here : filter q xs ≡ filter q later = ap (filter q) whole ∙ cond-false (q x) _ _ gone in
        omega (arith, ap length here, shorter_filter q later, ap length whole)

    pub nothing_inside : None ≡ slice_get (above_of d) 0 → filter (is_inside ids) xs ≡ []
    nothing_inside e =
        ap (filter (is_inside ids)) whole ∙ cond-false (is_inside ids x) _ _ fails
        ∙ sym (kept_above (is_inside ids) (λ _. false) x later above (λ y l t. absurd (none_above d (document_of y) e t (beyond y l t))))
        ∙ ap (filter (is_inside ids)) (none later)
      where
        none : (ys : List ℕ) → filter (λ _. false) ys ≡ []
        none [] = refl
        none (y ∷ ys) = none ys

-- the first entry is of a document of the set
pub taken_inside : (ids xs : List ℕ) (x d : ℕ) → Some x ≡ slice_get xs 0 → d ≡ document_of x → has ids d ≡ true → filter (is_inside ids) xs ≡ x ∷ filter (is_inside ids) (drop 1 xs)
taken_inside ids xs x d first doc t =
    ap (filter (is_inside ids)) (first_is xs x first) ∙ cond-true (is_inside ids x) _ _ (ap (has ids) (sym doc) ∙ t)
