-- The documents of a list that are in a set, from either of the two.
use Rattle.std.proofs.Common.{◌≡◌, ℕ, suc, ◌+◌, ◌*◌, ◌/◌, ◌^◌, ◌<◌, Bool, true, false, ◌&&◌, ◌||◌, ◌==◌, List, [], ◌∷◌, ◌++◌, length, None, Some, Result, Ok, Err, IfOk, refl, sym, ap, subst, ◌∙◌, arith}
use Rattle.std.specs.List.{filter, slice_get}
use Rattle.std.proofs.lemmas.Bool.{eq-eqb}
use Rattle.doc_sets.specs.Sets.{has, with_id, AreAbove, IsIncreasing}
use Rattle.doc_sets.specs.Membership.{AreByMembers, AreTheirMembers}
use Rattle.sorted_pages.specs.Entries as entries
use Rattle.facet_index.specs.Places.{has_document}
use Rattle.facet_index.proofs.TestLemmas.{filter_same, has_filter, increasing_filter}
use Rattle.facet_index.proofs.KeyLemmas.{document_has}
use Rattle.list_facets.specs.declared.hits.Hits.{Hits}
use Rattle.list_facets.specs.Hits.{ids_of, AreHits, IsWhole}

or_true : (b : Bool) → (b || true) ≡ true
or_true true = refl
or_true false = refl

later_whole : (x : ℕ) (xs : List ℕ) → IsWhole (x ∷ xs) → IsWhole xs
later_whole x xs whole = λ e inside. whole e (ap (λ b. (x == e) || b) inside ∙ or_true (x == e))

first_whole : (x : ℕ) (xs : List ℕ) → IsWhole (x ∷ xs) → (id : ℕ) × (x ≡ id * 2 ^ 32)
first_whole x xs whole = whole x (ap (λ b. b || entries.has xs x) (eq-eqb x x refl))

above_ids : (a id : ℕ) (xs : List ℕ) → a ≡ id * 2 ^ 32 → entries.AreAbove a xs → IsWhole xs → AreAbove (a / 2 ^ 32) (ids_of xs)
above_ids a id [] is above whole = tt
above_ids a id (x ∷ xs) is above whole =
    let first : (n : ℕ) × (x ≡ n * 2 ^ 32) = first_whole x xs whole in
    (less x first.0 is first.1 above.0, above_ids a id xs is above.1 (later_whole x xs whole))
  where
    less : (x n : ℕ) → a ≡ id * 2 ^ 32 → x ≡ n * 2 ^ 32 → a < x → a / 2 ^ 32 < x / 2 ^ 32
    less x n e f h =
        let p : a / 2 ^ 32 ≡ id = omega arith in
        let q : x / 2 ^ 32 ≡ n = omega arith in
        omega arith

increasing_ids : (xs : List ℕ) → entries.IsIncreasing xs → IsWhole xs → IsIncreasing (ids_of xs)
increasing_ids [] h whole = tt
increasing_ids (x ∷ xs) h whole =
    let first : (n : ℕ) × (x ≡ n * 2 ^ 32) = first_whole x xs whole in
    (above_ids x first.0 xs first.1 h.0 (later_whole x xs whole), increasing_ids xs h.1 (later_whole x xs whole))

has_ids : (xs : List ℕ) (d : ℕ) → has (ids_of xs) d ≡ has_document d xs
has_ids [] d = refl
has_ids (x ∷ xs) d = ap (λ b. (x / 2 ^ 32 == d) || b) (has_ids xs d)

from_list : AreTheirMembers → (list ids : List ℕ) → entries.IsIncreasing list → IsIncreasing ids → IsWhole list
    → filter (has ids) (ids_of list) ≡ filter (λ d. has_document d list) ids
from_list theirs list ids sorted increasing whole =
    theirs (filter (has ids) (ids_of list)) (filter (λ d. has_document d list) ids)
    (increasing_filter (has ids) (ids_of list) (increasing_ids list sorted whole)) (increasing_filter (λ d. has_document d list) ids increasing)
    (λ d. has_filter (has ids) (ids_of list) d ∙ ap (λ b. has ids d && b) (has_ids list d) ∙ turned (has ids d) (has_document d list)
    ∙ sym (has_filter (λ e. has_document e list) ids d))
  where
    turned : (a b : Bool) → (a && b) ≡ (b && a)
    turned true true = refl
    turned true false = refl
    turned false true = refl
    turned false false = refl

from_set : (list ids : List ℕ) → IsWhole list → filter (λ d. entries.has list (d * 2 ^ 32)) ids ≡ filter (λ d. has_document d list) ids
from_set list ids whole = filter_same _ _ ids (λ d. sym (document_has d list whole))

pub list_hits : {E : Type 0} → AreTheirMembers → (list ids : List ℕ) → entries.IsIncreasing list → IsIncreasing ids → (r : Result Hits E)
    → IfOk r (λ hits. AreHits hits (filter (has ids) (ids_of list))) → IfOk r (λ hits. IsWhole list → AreHits hits (filter (λ d. has_document d list) ids))
list_hits theirs list ids sorted increasing (Ok hits) h = λ whole. subst (AreHits hits) (from_list theirs list ids sorted increasing whole) h
list_hits theirs list ids sorted increasing (Err e) h = tt

pub set_hits : {E : Type 0} → (list ids : List ℕ) → (r : Result Hits E)
    → IfOk r (λ hits. AreHits hits (filter (λ d. entries.has list (d * 2 ^ 32)) ids))
    → IfOk r (λ hits. IsWhole list → AreHits hits (filter (λ d. has_document d list) ids))
set_hits list ids (Ok hits) h = λ whole. subst (AreHits hits) (from_set list ids whole) h
set_hits list ids (Err e) h = tt

-- ---- the first of them

pub no_first : (ids : List ℕ) → None ≡ slice_get ids 0 → ids ≡ []
no_first [] h = refl
no_first (x ∷ xs) h = absurd (cc)

pub some_first : (ids : List ℕ) (d : ℕ) → Some d ≡ slice_get ids 0 → (others : List ℕ) × (ids ≡ d ∷ others)
some_first [] d h = absurd (cc)
some_first (x ∷ xs) d h = (xs, ap (λ y. y ∷ xs) (let e : x ≡ d = cc in e))

-- ---- one document more

pub one_more : (ids : List ℕ) (id : ℕ) → length (ids ++ id ∷ []) ≡ length ids + 1
one_more [] id = refl
one_more (x ∷ xs) id = let e : suc (length xs + 1) ≡ suc (length xs) + 1 = omega arith in ap suc (one_more xs id) ∙ e

pub new_first : (ids : List ℕ) (id : ℕ) → slice_get ids 0 ≡ None → slice_get (ids ++ id ∷ []) 0 ≡ Some id
new_first [] id h = refl
new_first (x ∷ xs) id h = absurd (cc)

-- one bit more
pub bit_more : AreByMembers → (bits new rest : List ℕ) (id d : ℕ) → new ≡ with_id id bits → (has rest d || has new d) ≡ (has (id ∷ rest) d || has bits d)
bit_more by_members bits new rest id d made =
    ap (λ xs. has rest d || has xs d) made ∙ ap (λ b. has rest d || b) (by_members.with_id id d bits) ∙ turned (has rest d) (id == d) (has bits d)
  where
    turned : (a b c : Bool) → (a || (b || c)) ≡ ((b || a) || c)
    turned true true c = refl
    turned true false c = refl
    turned false true c = refl
    turned false false c = refl
