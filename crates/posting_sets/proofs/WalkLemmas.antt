-- The documents of a walk, one behind the other.
use Rattle.std.proofs.Common.{◌≡◌, ℕ, ◌<◌, ◌≤◌, Bool, true, false, ◌&&◌, ◌||◌, List, [], ◌∷◌, ◌++◌, length, eqb, ltb, refl, sym, ap, subst, ◌∙◌, arith}
use Rattle.std.specs.List.{filter}
use Rattle.std.proofs.lemmas.Bool.{cond_both, eqb-true, eqb-false, eq-eqb, ne_eqb, ltb-true, ltb-false}
use Rattle.sorted_pages.specs.Entries.{has, AreAbove, IsIncreasing}
use Rattle.sorted_pages.proofs.SetLemmas.{has-filter, increasing-filter}
use Rattle.sorted_pages.proofs.SplitLemmas.{has-append}
use Rattle.posting_sets.specs.Entries.{document_of}
use Rattle.posting_sets.specs.Found.{has_document}
use Rattle.posting_sets.proofs.InsideLemmas.{shorter_filter}

same_or : (a b c : Bool) → (a ≡ false → b ≡ c) → (a || b) ≡ (a || c)
same_or true b c h = refl
same_or false b c h = h refl

pub turned_or : (a b c : Bool) → (a || (b || c)) ≡ ((b || a) || c)
turned_or true true c = refl
turned_or true false c = refl
turned_or false true c = refl
turned_or false false c = refl

pub both_true : (a b : Bool) → (a && b) ≡ true → (a ≡ true) × (b ≡ true)
both_true true b h = (refl, h)
both_true false b h = absurd (cc)

pub either_true : {P : Type 0} (a b : Bool) → (a || b) ≡ true → (a ≡ true → P) → (b ≡ true → P) → P
either_true true b h f g = f refl
either_true false b h f g = g h

-- one more number behind all others
pub above_push : (a d : ℕ) (xs : List ℕ) → AreAbove a xs → a < d → AreAbove a (xs ++ d ∷ [])
above_push a d [] above l = (l, tt)
above_push a d (x ∷ xs) above l = (above.0, above_push a d xs above.1 l)

pub increasing_push : (d : ℕ) (xs : List ℕ) → IsIncreasing xs → ((q : ℕ) → has xs q ≡ true → q < d) → IsIncreasing (xs ++ d ∷ [])
increasing_push d [] up h = (tt, tt)
increasing_push d (x ∷ xs) up h =
    (above_push x d xs up.0 (h x (ap (λ b. b || has xs x) (itself x))), increasing_push d xs up.1 (λ q t. h q (ap (λ b. (eqb x q) || b) t ∙ or_true (eqb x q))))
  where
    itself : (x : ℕ) → eqb x x ≡ true
    itself x = eq-eqb x x refl

    or_true : (b : Bool) → (b || true) ≡ true
    or_true true = refl
    or_true false = refl

-- ---- a step of a walk: the next place, and the places behind its document
module _ (id start : ℕ) (left later new : List ℕ) (doc : id ≡ document_of start) (rise : IsIncreasing left) (is : left ≡ start ∷ later)
    (passed : new ≡ filter (λ x. ltb id (document_of x)) later) where
  abbrev is_later : ℕ → Bool
  is_later x = ltb id (document_of x)

  up : IsIncreasing (start ∷ later)
  up = subst IsIncreasing is rise

  pub new_up : IsIncreasing new
  new_up = subst IsIncreasing (sym passed) (increasing-filter is_later later up.1)

  pub new_shorter : length new < length left
  new_shorter = omega (arith, ap length passed, shorter_filter is_later later, ap length is)

  later_documents : (q : ℕ) (xs : List ℕ) → AreAbove start xs → eqb id q ≡ false → has_document (filter is_later xs) q ≡ has_document xs q
  later_documents q [] above e = refl
  later_documents q (x ∷ xs) above e =
      let again = later_documents q xs above.1 e in
      cond_both (is_later x) (x ∷ filter is_later xs) (filter is_later xs) (λ v. has_document v q ≡ has_document (x ∷ xs) q)
      (λ t. ap (λ b. eqb (document_of x) q || b) again)
      (λ f. again ∙ sym (ap (λ b. b || has_document xs q) (ne_eqb (document_of x) q (λ s. apart x above.0 (ltb-false id (document_of x) f) s))))
    where
      apart : (x : ℕ) → start < x → document_of x ≤ id → document_of x ≡ q → ⊥
      apart x l m s = eqb-false id q e (omega (arith, l, m, s, doc))

  pub new_documents : (q : ℕ) → (eqb id q || has_document new q) ≡ has_document left q
  new_documents q =
      ap (λ v. eqb id q || has_document v q) passed
      ∙ same_or (eqb id q) _ _ (later_documents q later up.0)
      ∙ ap (λ d. eqb d q || has_document later q) doc ∙ ap (λ v. has_document v q) (sym is)

  has_new : (s : ℕ) → has new s ≡ true → (has left s ≡ true) × (id < document_of s)
  has_new s t =
      let both = both_true _ _ (sym (has-filter is_later later s) ∙ ap (λ v. has v s) (sym passed) ∙ t) in
      (ap (λ v. has v s) is ∙ ap (λ b. eqb start s || b) both.0 ∙ or_true (eqb start s), ltb-true id (document_of s) both.1)
    where
      or_true : (b : Bool) → (b || true) ≡ true
      or_true true = refl
      or_true false = refl

  start_in : has left start ≡ true
  start_in = ap (λ v. has v start) is ∙ ap (λ b. b || has later start) (eq-eqb start start refl)

  -- a list of the documents before grows by this one
  module _ (ids : List ℕ) (behind : (q s : ℕ) → has ids q ≡ true → has left s ≡ true → q < document_of s) where
    pub ids_up : IsIncreasing ids → IsIncreasing (ids ++ id ∷ [])
    ids_up h = increasing_push id ids h (λ q t. subst (λ d. q < d) (sym doc) (behind q start t start_in))

    pub ids_behind : (q s : ℕ) → has (ids ++ id ∷ []) q ≡ true → has new s ≡ true → q < document_of s
    ids_behind q s t h =
        let there = has_new s h in
        either_true (has ids q) (eqb id q || false) (sym (has-append ids (id ∷ []) q) ∙ t) (λ old. behind q s old there.0)
        (λ last. either_true (eqb id q) false last (λ e. let same = eqb-true id q e in let l = there.1 in omega arith) (λ no. absurd (cc)))

    pub ids_documents : (q : ℕ) → (has (ids ++ id ∷ []) q || has_document new q) ≡ (has ids q || has_document left q)
    ids_documents q =
        ap (λ b. b || has_document new q) (has-append ids (id ∷ []) q) ∙ grouped (has ids q) (eqb id q) (has_document new q)
        ∙ ap (λ b. has ids q || b) (new_documents q)
      where
        grouped : (a b c : Bool) → ((a || (b || false)) || c) ≡ (a || (b || c))
        grouped true b c = refl
        grouped false true c = refl
        grouped false false c = refl

  -- a set of documents gets this one
  pub set_documents : (q : ℕ) (b : Bool) → (has_document new q || (eqb id q || b)) ≡ (has_document left q || b)
  set_documents q b = turned_or (has_document new q) (eqb id q) b ∙ ap (λ a. a || b) (new_documents q)
