-- Documents listed by their entries.
use Rattle.std.proofs.Common.{◌≡◌, ◌⊎◌, inl, inr, ℕ, zero, suc, ◌+◌, ◌<◌, ◌≤◌, ◌^◌, Bool, true, false, not, ◌&&◌, ◌||◌, List, [], ◌∷◌, map, drop, length, refl, sym, ap, subst, ◌∙◌, arith, Some}
use Rattle.std.specs.List.{list_any, slice_get, slice_set}
use Rattle.std.proofs.lemmas.List.{drop-set-lt}
use Rattle.search_base.specs.declared.cost_key.CostKey.{CostKey}
use Rattle.search_base.specs.declared.cost_key.CostKey.TheVariants.{Number}
use Rattle.search_base.specs.CostOrder.{before}
use Rattle.search_base.proofs.AnyLemmas.{list_any-map}
use Rattle.doc_sets.specs.Sets.{has, IsIncreasing, union, union_all}
use Rattle.doc_sets.specs.SetView.{SetView}
use Rattle.doc_sets.proofs.SetLemmas.{has-union, increasing-or, increasing-or_all}
use Rattle.bucket_sort.specs.Buckets.{IsBucket}
use Rattle.path_costs.proofs.ListLemmas.{slice_get-set}
use Rattle.rule_buckets.specs.Entries.{is_entry}
use Rattle.rule_buckets.specs.Listed.{left_from, AreListed}
use Rattle.rule_buckets.proofs.Members.{bucket-of, has-union_all, any-where, slice_get-drop}

-- a document is left where one of the sets has it
pub has-left : (at : ℕ) (sets : List SetView) (d : ℕ) → has (left_from at sets) d ≡ list_any (λ s. has s.ids d) (drop at sets)
has-left at sets d = has-union_all (map (λ s. s.ids) (drop at sets)) d ∙ list_any-map (λ xs. has xs d) (λ s. s.ids) (drop at sets)

drop-one : {X : Type 0} (at : ℕ) (xs : List X) (x : X) → slice_get xs at ≡ Some x → drop at xs ≡ x ∷ drop (suc at) xs
drop-one at [] x e = absurd (cc)
drop-one zero (y ∷ ys) x e = let same : y ≡ x = cc in ap (λ z. z ∷ ys) same
drop-one (suc at) (y ∷ ys) x e = drop-one at ys x e

-- the first of the sets that are left, and the others, in which an empty one may stand for it
pub left-first : (at : ℕ) (sets new : List SetView) (docs none : SetView) → slice_get sets at ≡ Some docs → new ≡ slice_set sets at none
    → left_from at sets ≡ union docs.ids (left_from (at + 1) new)
left-first at sets new docs none e f =
    let next : suc at ≡ at + 1 = omega arith in
    let others : drop (at + 1) new ≡ drop (at + 1) sets = ap (drop (at + 1)) f ∙ drop-set-lt (at + 1) sets at none (omega arith) in
    ap (λ l. union_all (map (λ s. s.ids) l)) (drop-one at sets docs e)
    ∙ ap (λ n. union docs.ids (union_all (map (λ s. s.ids) (drop n sets)))) next
    ∙ ap (λ l. union docs.ids (union_all (map (λ s. s.ids) l))) (sym others)

-- an empty set may stand for any
pub listed-set : (entry : ℕ → CostKey) (at : ℕ) (sets new : List SetView) (none : SetView) → none.ids ≡ [] → new ≡ slice_set sets at none
    → AreListed entry sets → AreListed entry new
listed-set entry at sets new none empty e are = record {
  each = λ k d set f h. one k d set (slice_get-set sets at none k set (ap (λ l. slice_get l k) (sym e) ∙ f)) h;
  few = subst (λ n. n < 2 ^ 32) (sym (ap length e ∙ length-set sets at none)) are.few;
}
  where
    length-set : (xs : List SetView) (i : ℕ) (x : SetView) → length (slice_set xs i x) ≡ length xs
    length-set [] i x = refl
    length-set (y ∷ ys) zero x = refl
    length-set (y ∷ ys) (suc i) x = ap suc (length-set ys i x)

    one : (k d : ℕ) (set : SetView) → ((k ≡ at → ⊥) × (slice_get sets k ≡ Some set)) ⊎ ((k ≡ at) × (none ≡ set)) → has set.ids d ≡ true → entry d ≡ Number k
    one k d set (inl (other, is)) h = are.each k d set is h
    one k d set (inr (same, is)) h = absurd (let f : has [] d ≡ true = ap (λ l. has l d) (sym empty) ∙ ap (λ (s : SetView). has s.ids d) is ∙ h in cc)

-- the documents of the first set that is not empty are a bucket
pub listed-bucket : (entry : ℕ → CostKey) (at : ℕ) (sets new : List SetView) (docs : SetView) → AreListed entry sets → AreListed entry new
    → slice_get sets at ≡ Some docs → IsIncreasing docs.ids → 0 < length docs.ids
    → IsBucket before entry (union docs.ids (left_from (at + 1) new)) (left_from (at + 1) new) (Number at) docs.ids
listed-bucket entry at sets new docs are later e inc some =
    bucket-of entry (union docs.ids rest) rest docs.ids at (increasing-or docs.ids rest inc-rest) inc-rest inc some
    (λ d. here d (has docs.ids d) (has rest d) refl refl ∙ ap (λ b. b && is_entry at (entry d)) (sym (has-union docs.ids rest d)))
    (λ d. there d (has docs.ids d) (has rest d) refl refl ∙ ap (λ b. b && not (is_entry at (entry d))) (sym (has-union docs.ids rest d)))
    (λ d h. least d (has docs.ids d) refl (sym (has-union docs.ids rest d) ∙ h))
  where
    rest : List ℕ
    rest = left_from (at + 1) new

    inc-rest : IsIncreasing rest
    inc-rest = increasing-or_all (map (λ s. s.ids) (drop (at + 1) new))

    this : (d : ℕ) → has docs.ids d ≡ true → entry d ≡ Number at
    this d h = are.each at d docs e h

    other : (d : ℕ) → has rest d ≡ true → (x : ℕ) × (entry d ≡ Number x) × (at < x)
    other d h =
        let w = any-where (λ s. has s.ids d) (drop (at + 1) new) (sym (has-left (at + 1) new d) ∙ h) in
        (at + 1 + w.0, later.each (at + 1 + w.0) d w.1 (sym (slice_get-drop (at + 1) new w.0) ∙ w.2) w.3, omega arith)

    apart : (k : CostKey) (x : ℕ) → k ≡ Number x → at < x → is_entry at k ≡ false
    apart k x f less = rw f (grind (arith, less))

    alone : (k : CostKey) → k ≡ Number at → is_entry at k ≡ true
    alone k f = rw f (grind arith)

    here : (d : ℕ) (a b : Bool) → has docs.ids d ≡ a → has rest d ≡ b → has docs.ids d ≡ ((has docs.ids d || has rest d) && is_entry at (entry d))
    here d true b f g = rw (f, alone (entry d) (this d f)) refl
    here d false true f g = let w = other d g in rw (f, g, apart (entry d) w.0 w.1 w.2) refl
    here d false false f g = rw (f, g) refl

    there : (d : ℕ) (a b : Bool) → has docs.ids d ≡ a → has rest d ≡ b → has rest d ≡ ((has docs.ids d || has rest d) && not (is_entry at (entry d)))
    there d true true f g =
        let w = other d g in let same : w.0 ≡ at = number-same w.0 at (sym w.1 ∙ this d f) in absurd (omega (arith, w.2, same))
      where
        number-same : (x y : ℕ) → Number x ≡ Number y → x ≡ y
        number-same x y e = cc
    there d true false f g = rw (f, g, alone (entry d) (this d f)) refl
    there d false true f g = let w = other d g in rw (f, g, apart (entry d) w.0 w.1 w.2) refl
    there d false false f g = rw (f, g) refl

    least : (d : ℕ) (a : Bool) → has docs.ids d ≡ a → (has docs.ids d || has rest d) ≡ true → (x : ℕ) × (entry d ≡ Number x) × (at ≤ x)
    least d true f h = (at, this d f, omega arith)
    least d false f h = let w = other d (sym (ap (λ b. b || has rest d) f) ∙ h) in (w.0, w.1, omega (arith, w.2))

-- an empty set is passed over
pub passed-over : (entry : ℕ → CostKey) (at : ℕ) (sets new : List SetView) (docs none : SetView) (remaining : List ℕ) → AreListed entry sets
    → slice_get sets at ≡ Some docs → none.ids ≡ [] → new ≡ slice_set sets at none → length docs.ids ≡ 0 → left_from at sets ≡ remaining
    → AreListed entry new × (left_from (at + 1) new ≡ remaining)
passed-over entry at sets new docs none remaining are e empty f len old = (
  listed-set entry at sets new none empty f are,
  ap (λ l. union l (left_from (at + 1) new)) (sym (nothing docs.ids len)) ∙ sym (left-first at sets new docs none e f) ∙ old,
)
  where
    nothing : (xs : List ℕ) → length xs ≡ 0 → xs ≡ []
    nothing [] h = refl
    nothing (x ∷ xs) h = absurd (omega (arith, h))
