-- Numbers between two ends.
use Rattle.std.proofs.Common.{◌≡◌, ℕ, ℤ, pos, negsuc, ◌<◌, Bool, true, false, not, ◌&&◌, ◌||◌, ◌==◌, int_lt, List, [], ◌∷◌, ◌++◌, Result, Ok, Err, Option, Some, None, refl, sym, ap, ap₂, subst, ◌∙◌, arith}
use Rattle.std.specs.declared.cmp.Ordering.{Ordering}
use Rattle.std.specs.declared.cmp.Ordering.TheVariants.{Less, Equal, Greater}
use Rattle.std.specs.Ordering.{is_le, nat_cmp, int_cmp, ordering_then, ordering_reverse, MatchOrdering}
use Rattle.std.specs.List.{filter, list_any, AllByRecursion}
use Rattle.search_base.specs.declared.document.Leaf.{Leaf}
use Rattle.std.specs.Option.{IfSome}
use Rattle.std.specs.Result.{IfOk}
use Rattle.std.specs.Str.{bytes_eq}
use Rattle.std.specs.Int.{w128}
use Rattle.std.specs.Int.RustNames.{FitsSigned}
use Rattle.std.proofs.lemmas.Bool.{eqb-true, eq-eqb}
use Rattle.std.proofs.lemmas.Bool.Decides.{nat_tests}
use Rattle.std.proofs.lemmas.Cmp.{ranked, nat_cmp_total}
use Rattle.search_base.specs.declared.document.MarkKind.{MarkKind}
use Rattle.search_base.specs.declared.document.MarkKind.TheVariants.{Exists, Null, Empty}
use Rattle.search_base.specs.declared.value.FacetValue.{FacetValue}
use Rattle.search_base.specs.declared.value.FacetValue.TheVariants as facet
use Rattle.doc_sets.specs.SetView.{SetView}
use Rattle.postings.specs.Dictionary.{PostingsView, word_cmp}
use Rattle.facet_keys.specs.Keys.{Facet, leaf, mark, key_bytes, facet_bytes, IsNarrow, IsNarrowValue}
use Rattle.facet_keys.specs.Laws.{AreInOrder}
use Rattle.facet_index.specs.LeavesView.{LeavesView}
use Rattle.facet_index.specs.Documents.{is_number_that, is_between, has_number_that, passes_at}
use Rattle.facet_index.specs.Ends.{end_facet, ends_of}
use Rattle.facet_index.specs.Counted.{counted_of}
use Rattle.facet_index.specs.Places.{leaf_facets, mark_facets, facets_of, key_of, keys_of, AreNarrow, IsNarrowDocument, IsIndexOf}
use Rattle.facet_index.specs.Ranges.{is_inside, PassesInside}
use Rattle.facet_index.proofs.TestLemmas.{both, any_map, any_where, any_implies, any_witness}
use Rattle.facet_index.proofs.KeyLemmas.{has_key, has_at, facets_say, any_never, ends_none, counted_none, and_false, or_false, bytes_same, bytes_itself}

-- ---- the order of keys

-- the paths of the ends are one
path_between : (p q : ℕ) (c d : Ordering)
    → (is_le (ordering_then (nat_cmp p q) c) && is_le (ordering_then (nat_cmp q p) d)) ≡ ((q == p) && (is_le c && is_le d))
path_between p q c d = ap (λ o. is_le (ordering_then (nat_cmp p q) c) && is_le (ordering_then o d)) (nat_cmp_total.antisymm q p)
    ∙ by (nat_cmp p q) (ranked p q (nat_cmp p q) refl)
  where
    differ : (q ≡ p → ⊥) → false ≡ (q == p)
    differ ne = never (q == p) refl
      where
        never : (b : Bool) → b ≡ (q == p) → false ≡ b
        never true s = absurd (ne (eqb-true q p (sym s)))
        never false s = refl

    by : (o : Ordering) → MatchOrdering o (p < q) (p ≡ q) (q < p)
        → (is_le (ordering_then o c) && is_le (ordering_then (ordering_reverse o) d)) ≡ ((q == p) && (is_le c && is_le d))
    by Less h = ap (λ b. b && (is_le c && is_le d)) (differ (λ e. omega arith))
    by Equal h = ap (λ b. b && (is_le c && is_le d)) (sym (eq-eqb q p (sym h)))
    by Greater h = ap (λ b. b && (is_le c && is_le d)) (differ (λ e. omega arith))

le_number : (m n : ℤ) → is_le (int_cmp m n) ≡ not (int_lt n m)
le_number (pos m) (pos n) = grind (arith, nat_tests)
le_number (pos m) (negsuc n) = refl
le_number (negsuc m) (pos n) = refl
le_number (negsuc m) (negsuc n) = grind (arith, nat_tests)

-- a value between two numbers, by the bytes behind the path
value_between : AreInOrder → (low high : ℤ) (v : FacetValue) → FitsSigned w128 low → FitsSigned w128 high → IsNarrowValue v
    → (is_le (word_cmp (facet_bytes (leaf (facet.Number low))) (facet_bytes (leaf v))) && is_le (word_cmp (facet_bytes (leaf v)) (facet_bytes (leaf (facet.Number high)))))
    ≡ is_number_that (is_between low high) v
value_between order low high (facet.Number n) l h narrow =
    ap₂ (λ a b. is_le a && is_le b) (order.numbers low n l narrow) (order.numbers n high narrow h)
    ∙ ap₂ (λ a b. a && b) (le_number low n) (le_number n high)
value_between order low high (facet.Text text) l h narrow = refl

mark_between : (low high : ℤ) (kind : MarkKind)
    → (is_le (word_cmp (facet_bytes (leaf (facet.Number low))) (facet_bytes (mark kind))) && is_le (word_cmp (facet_bytes (mark kind)) (facet_bytes (leaf (facet.Number high)))))
    ≡ false
mark_between low high Exists = refl
mark_between low high Null = refl
mark_between low high Empty = refl

-- ---- a range of numbers

abbrev pub end_of : ℕ → ℤ → List ℕ
end_of path n = key_bytes path (leaf (facet.Number n))

pub facet_between : AreInOrder → (path : ℕ) (low high : Facet) → IsNarrow path low → IsNarrow path high → (q : ℕ) (x : Facet) → IsNarrow q x
    → is_inside (key_bytes path low) (key_bytes path high) (key_bytes q x)
    ≡ ((q == path) && (is_le (word_cmp (facet_bytes low) (facet_bytes x)) && is_le (word_cmp (facet_bytes x) (facet_bytes high))))
facet_between order path low high l h q x narrow =
    ap₂ (λ a b. is_le a && is_le b) (order.paths path q low x l narrow) (order.paths q path x high narrow h)
    ∙ path_between path q (word_cmp (facet_bytes low) (facet_bytes x)) (word_cmp (facet_bytes x) (facet_bytes high))

end_between : (low high : ℤ) (up : Bool) (v : FacetValue)
    → (is_le (word_cmp (facet_bytes (leaf (facet.Number low))) (facet_bytes (end_facet up v))) && is_le (word_cmp (facet_bytes (end_facet up v)) (facet_bytes (leaf (facet.Number high)))))
    ≡ false
end_between low high true (facet.Number n) = refl
end_between low high true (facet.Text text) = refl
end_between low high false (facet.Number n) = refl
end_between low high false (facet.Text text) = refl

-- whether the bytes of a facet are between those of two numbers
abbrev inside_ends : ℤ → ℤ → Facet → Bool
inside_ends low high x =
    is_le (word_cmp (facet_bytes (leaf (facet.Number low))) (facet_bytes x)) && is_le (word_cmp (facet_bytes x) (facet_bytes (leaf (facet.Number high))))

pub leaves_narrow : (leaves : List Leaf) → AreNarrow (leaf_facets leaves) → AllByRecursion (λ x. IsNarrow x.path.0 (leaf x.value)) leaves
leaves_narrow [] all = tt
leaves_narrow (x ∷ xs) all = (all.0, leaves_narrow xs all.1)

pub first_part : (xs ys : List (ℕ × Facet)) → AreNarrow (xs ++ ys) → AreNarrow xs
first_part [] ys all = tt
first_part (x ∷ xs) ys all = (all.0, first_part xs ys all.1)

-- whether one of a document's keys is between the ends
abbrev has_inside : List ℕ → List ℕ → LeavesView → Bool
has_inside first last document = list_any (is_inside first last) (keys_of document)

document_between : AreInOrder → (path : ℕ) (low high : ℤ) → IsNarrow path (leaf (facet.Number low)) → IsNarrow path (leaf (facet.Number high))
    → (document : LeavesView) → IsNarrowDocument document
    → has_inside (end_of path low) (end_of path high) document ≡ has_number_that (is_between low high) path document
document_between order path low high l h document narrow =
    any_map key_of (is_inside (end_of path low) (end_of path high)) (facets_of document)
    ∙ any_where (λ x. IsNarrow x.0 x.1) _ (λ x. (x.0 == path) && inside_ends low high x.1) (facets_of document) narrow (λ x each. facet_between order path (leaf (facet.Number low)) (leaf (facet.Number high)) l h x.0 x.1 each)
    ∙ facets_say (λ x. (x.0 == path) && inside_ends low high x.1) document
    ∙ ap₂ (λ a b. a || b)
    (any_where (λ x. IsNarrow x.path.0 (leaf x.value)) _ (λ x. (x.path.0 == path) && is_number_that (is_between low high) x.value) document.leaves
    (leaves_narrow document.leaves (first_part (leaf_facets document.leaves) (mark_facets document.marks ++ (ends_of document.leaves ++ counted_of document.leaves)) narrow))
    (λ x each. ap (λ b. (x.path.0 == path) && b) (value_between order low high x.value l.1 h.1 each.1)))
    (ap₂ (λ a b. a || b)
    (any_never (λ x. (x.path.0 == path) && inside_ends low high (mark x.kind)) document.marks
    (λ x. ap (λ b. (x.path.0 == path) && b) (mark_between low high x.kind) ∙ and_false (x.path.0 == path)))
    (ap₂ (λ a b. a || b) (ends_none (λ x. (x.0 == path) && inside_ends low high x.1) document.leaves
    (λ up q v. ap (λ b. (q == path) && b) (end_between low high up v) ∙ and_false (q == path)))
    (counted_none (λ x. (x.0 == path) && inside_ends low high x.1) [] document.leaves (λ q t. and_false (q == path)) (λ q t s. and_false (q == path)))))
    ∙ or_false (has_number_that (is_between low high) path document)

-- the documents of keys between two ends
pub inside_passes : (first last : List ℕ) (view : PostingsView) (documents : List LeavesView) (test : LeavesView → Bool) → IsIndexOf view documents
    → ((document : LeavesView) → IsNarrowDocument document → has_inside first last document ≡ test document)
    → PassesInside first last view (passes_at test documents)
inside_passes first last view documents test index says = record {
  found = λ id key inside has. sym (same id) ∙ any_implies (λ document. (document.id == id) && has_key key document)
      (λ document. (document.id == id) && has_inside first last document) documents
      (λ document passes.
      let parts = both (document.id == id) (has_key key document) passes in
      ap₂ (λ a b. a && b) parts.0 (any_implies (λ k. bytes_eq k key) (is_inside first last) (keys_of document)
      (λ k is. ap (is_inside first last) (bytes_same k key is) ∙ inside) parts.1))
      (sym (has_at view documents key id index) ∙ has);
  only = λ id passes.
      let document = any_witness (λ document. (document.id == id) && has_inside first last document) documents (same id ∙ passes) in
      let parts = both (document.0.id == id) (has_inside first last document.0) document.1 in
      let key = any_witness (is_inside first last) (keys_of document.0) parts.1 in (
        key.0,
        key.1,
        has_at view documents key.0 id index
            ∙ document.2 (λ x. (x.id == id) && has_key key.0 x) (ap₂ (λ a b. a && b) parts.0 (key.2 (λ k. bytes_eq k key.0) (bytes_itself key.0))),
      );
}
  where
    same : (id : ℕ) → list_any (λ document. (document.id == id) && has_inside first last document) documents ≡ passes_at test documents id
    same id = any_where IsNarrowDocument _ (λ document. (document.id == id) && test document) documents index.narrow
        (λ document narrow. ap (λ b. (document.id == id) && b) (says document narrow))

pub range_answer : {E : Type 0} → AreInOrder → (view : PostingsView) (path : ℕ) (low high : ℤ) (universe first last : List ℕ)
    → first ≡ end_of path low → last ≡ end_of path high → IsNarrow path (leaf (facet.Number low)) → IsNarrow path (leaf (facet.Number high))
    → (r : Result (Option SetView) E)
    → IfOk r (λ found. IfSome found (λ docs. (passes : ℕ → Bool) → PassesInside first last view passes → docs.ids ≡ filter passes universe))
    → IfOk r (λ found. IfSome found (λ docs. (documents : List LeavesView) → IsIndexOf view documents
    → docs.ids ≡ filter (passes_at (has_number_that (is_between low high) path) documents) universe))
range_answer order view path low high universe first last is_first is_last l h (Ok (Some docs)) found = λ documents index.
    found (passes_at (has_number_that (is_between low high) path) documents)
    (subst (λ k. PassesInside k last view (passes_at (has_number_that (is_between low high) path) documents)) (sym is_first)
    (subst (λ k. PassesInside (end_of path low) k view (passes_at (has_number_that (is_between low high) path) documents)) (sym is_last)
    (inside_passes (end_of path low) (end_of path high) view documents (has_number_that (is_between low high) path) index
    (λ document narrow. document_between order path low high l h document narrow))))
range_answer order view path low high universe first last is_first is_last l h (Ok None) found = tt
range_answer order view path low high universe first last is_first is_last l h (Err e) found = tt
