-- The documents of ranks and of beginnings, from the sets of paths.
use Rattle.std.proofs.Common.{◌≡◌, ℕ, ◌+◌, ◌<◌, inl, inr, Bool, true, false, ◌&&◌, ◌||◌, cond, List, [], ◌∷◌, length, eqb, ltb, Option, Some, None, refl, sym, ap, ap₂, ◌∙◌, arith}
use Rattle.std.specs.List.{list_any, filter}
use Rattle.std.specs.Option.{option_eq}
use Rattle.std.specs.Cmp.{both_ways}
use Rattle.std.proofs.lemmas.Bool.{cases_lt, eqb-true, eq-eqb, ltb-true, lt-ltb, and_from, or_left, or_right, false_from_ne_true}
use Rattle.sorted_pages.specs.Entries.{has}
use Rattle.sorted_pages.proofs.SetLemmas.{has-filter}
use Rattle.postings.specs.Dictionary.{PostingsView, list_at, some_list}
use Rattle.posting_list.specs.Sets.{IsSetOfPassing, is_first, is_start as is_path_start}
use Rattle.posting_sets.specs.declared.number.Number.TheVariants.{First}
use Rattle.posting_sets.specs.Entries.{document_of, path_of, position_of}
use Rattle.posting_sets.specs.Starts.{is_inside}
use Rattle.posting_sets.specs.Numbers.{rank_at}
use Rattle.posting_sets.specs.Found.{lacks_list}
use Rattle.posting_sets.specs.Gathered.{is_ranked, is_beginning, is_numbered}
use Rattle.posting_sets.proofs.WalkLemmas.{both_true, either_true}
use Rattle.posting_sets.proofs.OccursLemmas.{has_found, has_from}

pub regroup : (a b c : Bool) → (a || (b || c)) ≡ ((a || b) || c)
regroup true b c = refl
regroup false b c = refl

pub absorb : (all part old : Bool) → (part ≡ true → all ≡ true) → (all || (part || old)) ≡ (all || old)
absorb true part old h = refl
absorb false true old h = ap (λ b. b || old) (sym (h refl))
absorb false false old h = refl

-- the entry passes, and is of a path before this one
abbrev pub is_up_to : (ℕ → Bool) → ℕ → ℕ → Bool
is_up_to t i entry = t entry && ltb (path_of entry) i

module _ (ids list : List ℕ) (t : ℕ → Bool) where
  abbrev pub inside : List ℕ
  inside = filter (is_inside ids) list

  abbrev pub up_to : ℕ → Bool
  up_to i = list_any (is_up_to t i) inside

  pub none_yet : up_to 0 ≡ false
  none_yet = false_from_ne_true (up_to 0) (λ h.
      let e = has_found (is_up_to t 0) inside h in
      let low : path_of e.0 < 0 = ltb-true (path_of e.0) 0 (both_true (t e.0) (ltb (path_of e.0) 0) e.2).1 in omega arith)

  pub part_of : (i : ℕ) → up_to i ≡ true → list_any t inside ≡ true
  part_of i h =
      let e = has_found (is_up_to t i) inside h in
      has_from t inside e.0 e.1 (both_true _ _ e.2).0

  pub all_there : (limit : ℕ) → ((entry : ℕ) → has list entry ≡ true → path_of entry < limit) → up_to limit ≡ list_any t inside
  all_there limit below = both_ways (up_to limit) (list_any t inside) (part_of limit)
      (λ h.
      let e = has_found t inside h in
      let there = both_true (has list e.0) _ (sym (has-filter (is_inside ids) list e.0) ∙ e.1) in
      has_from (is_up_to t limit) inside e.0 e.1 (and_from _ _ e.2 (lt-ltb (path_of e.0) limit (below e.0 there.0))))

  -- one path more, of which a set has the documents of the entries that pass another test
  pub one_path : (i q : ℕ) (set : List ℕ) (passes : ℕ → Bool) (ranked : Bool) → IsSetOfPassing passes set list
      → ((entry : ℕ) → (t entry && eqb (path_of entry) i) ≡ (ranked && (eqb (document_of entry) q && passes entry)))
      → ((ranked && (has ids q && has set q)) || up_to i) ≡ up_to (i + 1)
  one_path i q set passes ranked of splits = both_ways _ (up_to (i + 1)) there back
    where
      there : ((ranked && (has ids q && has set q)) || up_to i) ≡ true → up_to (i + 1) ≡ true
      there h = either_true (ranked && (has ids q && has set q)) (up_to i) h
          (λ here.
          let first = both_true ranked _ here in
          let both = both_true (has ids q) (has set q) first.1 in
          let e = has_found (λ entry. eqb (document_of entry) q && passes entry) list (sym (of q) ∙ both.1) in
          let at = both_true (eqb (document_of e.0) q) (passes e.0) e.2 in
          let tested = both_true (t e.0) (eqb (path_of e.0) i) (splits e.0 ∙ and_from _ _ first.0 e.2) in
          let path : path_of e.0 ≡ i = eqb-true (path_of e.0) i tested.1 in
          let within : is_inside ids e.0 ≡ true = ap (has ids) (eqb-true (document_of e.0) q at.0) ∙ both.0 in
          has_from (is_up_to t (i + 1)) inside e.0 (has-filter (is_inside ids) list e.0 ∙ and_from _ _ e.1 within)
          (and_from _ _ tested.0 (lt-ltb (path_of e.0) (i + 1) (omega arith))))
          (λ before.
          let e = has_found (is_up_to t i) inside before in
          let both = both_true _ _ e.2 in
          has_from (is_up_to t (i + 1)) inside e.0 e.1
          (and_from _ _ both.0 (lt-ltb (path_of e.0) (i + 1) (let low = ltb-true (path_of e.0) i both.1 in omega arith))))

      back : up_to (i + 1) ≡ true → ((ranked && (has ids q && has set q)) || up_to i) ≡ true
      back h =
          let e = has_found (is_up_to t (i + 1)) inside h in
          let both = both_true _ _ e.2 in
          let low = ltb-true (path_of e.0) (i + 1) both.1 in
          elim (cases_lt (path_of e.0) i) [
            | inl less ↦ or_right _ (up_to i) (has_from (is_up_to t i) inside e.0 e.1 (and_from _ _ both.0 (lt-ltb (path_of e.0) i less)))
            | inr more ↦
                let path : path_of e.0 ≡ i = omega arith in
                let split = both_true ranked _ (sym (splits e.0) ∙ and_from _ _ both.0 (eq-eqb (path_of e.0) i path)) in
                let document : document_of e.0 ≡ q = eqb-true (document_of e.0) q (both_true _ (passes e.0) split.1).0 in
                let within = both_true (has list e.0) _ (sym (has-filter (is_inside ids) list e.0) ∙ e.1) in
                or_left (ranked && (has ids q && has set q)) _
                (and_from _ _ split.0
                (and_from _ _ (sym (ap (has ids) document) ∙ within.1)
                (of q ∙ has_from (λ entry. eqb (document_of entry) q && passes entry) list e.0 within.0 split.1)))
          ]

-- one path more, by its rank
pub one_ranked : (ids list : List ℕ) (ranks : List (Option ℕ)) (n q i : ℕ) (set : List ℕ) → IsSetOfPassing (λ entry. eqb (path_of entry) i) set list
    → ((option_eq eqb (rank_at ranks i) (Some n) && (has ids q && has set q)) || up_to ids list (is_ranked ranks n q) i) ≡ up_to ids list (is_ranked ranks n q) (i + 1)
one_ranked ids list ranks n q i set of =
    one_path ids list (is_ranked ranks n q) i q set (λ entry. eqb (path_of entry) i) (of_rank i) of (λ entry. by entry (eqb (path_of entry) i) refl)
  where
    of_rank : ℕ → Bool
    of_rank path = option_eq eqb (rank_at ranks path) (Some n)

    here : (d r : Bool) → ((d && r) && true) ≡ (r && (d && true))
    here true true = refl
    here true false = refl
    here false true = refl
    here false false = refl

    elsewhere : (d r s : Bool) → ((d && r) && false) ≡ (s && (d && false))
    elsewhere true true true = refl
    elsewhere true true false = refl
    elsewhere true false true = refl
    elsewhere true false false = refl
    elsewhere false r true = refl
    elsewhere false r false = refl

    by : (entry : ℕ) (b : Bool) → eqb (path_of entry) i ≡ b
        → (is_ranked ranks n q entry && eqb (path_of entry) i) ≡ (of_rank i && (eqb (document_of entry) q && eqb (path_of entry) i))
    by entry true e =
        ap₂ (λ r b. (eqb (document_of entry) q && r) && b) (ap of_rank (eqb-true _ _ e)) e ∙ here (eqb (document_of entry) q) (of_rank i)
        ∙ ap (λ b. of_rank i && (eqb (document_of entry) q && b)) (sym e)
    by entry false e =
        ap (λ b. is_ranked ranks n q entry && b) e ∙ elsewhere (eqb (document_of entry) q) (of_rank (path_of entry)) (of_rank i)
        ∙ ap (λ b. of_rank i && (eqb (document_of entry) q && b)) (sym e)

-- one path more, of those that begin so
pub one_beginning : (ids list : List ℕ) (n q i : ℕ) (set : List ℕ) → IsSetOfPassing (is_path_start i) set list
    → ((eqb i n && (has ids q && has set q)) || up_to ids list (is_beginning n q) i) ≡ up_to ids list (is_beginning n q) (i + 1)
one_beginning ids list n q i set of =
    one_path ids list (is_beginning n q) i q set (is_path_start i) (eqb i n) of (λ entry. by (eqb (document_of entry) q) (eqb (position_of entry) 0) (path_of entry) (eqb (path_of entry) i) refl)
  where
    none : (d r : Bool) → ((d && false) && r) ≡ (eqb i n && (d && (r && false)))
    none d r = left d r ∙ sym (right (eqb i n) d r)
      where
        left : (d r : Bool) → ((d && false) && r) ≡ false
        left true r = refl
        left false r = refl

        right : (s d r : Bool) → (s && (d && (r && false))) ≡ false
        right true true true = refl
        right true true false = refl
        right true false r = refl
        right false d r = refl

    swapped : (d r s : Bool) → ((d && s) && r) ≡ (s && (d && (r && true)))
    swapped true true true = refl
    swapped true true false = refl
    swapped true false true = refl
    swapped true false false = refl
    swapped false r true = refl
    swapped false r false = refl

    same_path : (d r : Bool) (path : ℕ) → eqb path i ≡ r → ((d && eqb path n) && r) ≡ ((d && eqb i n) && r)
    same_path d true path e = ap (λ p. (d && eqb p n) && true) (eqb-true path i e)
    same_path d false path e = away d (eqb path n) ∙ sym (away d (eqb i n))
      where
        away : (d s : Bool) → ((d && s) && false) ≡ false
        away true true = refl
        away true false = refl
        away false s = refl

    by : (d first : Bool) (path : ℕ) (r : Bool) → eqb path i ≡ r
        → ((d && option_eq eqb (cond first (Some path) None) (Some n)) && eqb path i) ≡ (eqb i n && (d && (eqb path i && first)))
    by d false path r e = none d (eqb path i)
    by d true path r e = same_path d (eqb path i) path refl ∙ swapped d (eqb path i) (eqb i n)

-- the documents at the beginning of any path
pub all_first : (ids list : List ℕ) (n q : ℕ) (set : List ℕ) → IsSetOfPassing is_first set list
    → (eqb 0 n && (has ids q && has set q)) ≡ list_any (is_numbered First n q) (filter (is_inside ids) list)
all_first ids list n q set of = both_ways _ _
    (λ h.
    let first = both_true (eqb 0 n) _ h in
    let both = both_true (has ids q) (has set q) first.1 in
    let e = has_found (λ entry. eqb (document_of entry) q && is_first entry) list (sym (of q) ∙ both.1) in
    let at = both_true (eqb (document_of e.0) q) (is_first e.0) e.2 in
    let within : is_inside ids e.0 ≡ true = ap (has ids) (eqb-true (document_of e.0) q at.0) ∙ both.0 in
    has_from (is_numbered First n q) inner e.0 (has-filter (is_inside ids) list e.0 ∙ and_from _ _ e.1 within)
    (and_from _ _ at.0 (ap (λ b. option_eq eqb (cond b (Some 0) None) (Some n)) at.1 ∙ first.0)))
    (λ h.
    let e = has_found (is_numbered First n q) inner h in
    let at = both_true (eqb (document_of e.0) q) _ e.2 in
    let one = first_is (is_first e.0) at.1 in
    let document : document_of e.0 ≡ q = eqb-true (document_of e.0) q at.0 in
    let within = both_true (has list e.0) _ (sym (has-filter (is_inside ids) list e.0) ∙ e.1) in
    and_from _ _ one.1 (and_from _ _ (sym (ap (has ids) document) ∙ within.1)
    (of q ∙ has_from (λ entry. eqb (document_of entry) q && is_first entry) list e.0 within.0 (and_from _ _ at.0 one.0))))
  where
    inner : List ℕ
    inner = filter (is_inside ids) list

    first_is : (b : Bool) → option_eq eqb (cond b (Some 0) None) (Some n) ≡ true → (b ≡ true) × (eqb 0 n ≡ true)
    first_is true h = (refl, h)
    first_is false h = absurd (cc)

-- a word without a list
pub lacking : (view : PostingsView) (word : List ℕ) → None ≡ some_list (list_at word view) → lacks_list view (word ∷ []) ≡ true
lacking view word e = by (list_at word view) e
  where
    by : (xs : List ℕ) → None ≡ some_list xs → (eqb (length xs) 0 || false) ≡ true
    by [] e = refl
    by (x ∷ xs) e = absurd (cc)
