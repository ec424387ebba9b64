-- The values that come first under the paths of a document.
use Rattle.std.proofs.Common.{◌≡◌, ℕ, Bool, true, false, ◌&&◌, ◌||◌, ◌==◌, cond, List, [], ◌∷◌, Option, None, Some, map, flat_map, refl, sym, ap, ap₂, ◌∙◌}
use Rattle.std.specs.List.{list_any}
use Rattle.std.proofs.lemmas.Bool.{eqb-true}
use Rattle.std.proofs.lemmas.List.Folds.{list_any-append}
use Rattle.search_base.specs.declared.document.Leaf.{Leaf}
use Rattle.search_base.specs.declared.document.MarkKind.{MarkKind}
use Rattle.search_base.specs.declared.value.FacetValue.{FacetValue}
use Rattle.search_base.specs.SortKeys.{leaves_under, sooner, first_by}
use Rattle.facet_keys.specs.Keys.{Facet, leaf, mark, counted, spelling}
use Rattle.facet_index.specs.LeavesView.{LeavesView}
use Rattle.facet_index.specs.Documents.{is_same}
use Rattle.facet_index.specs.Ends.{value_before, first_value, end_facet, if_end, end_at, ends_at, ends_of, has_path, paths_of}
use Rattle.facet_index.proofs.TestLemmas.{any_and, any_same}
use Rattle.facet_index.proofs.KeyLemmas.{any_flat, any_never, counted_none, and_false, or_false, has_facet, is_facet, facets_say}

-- ---- one leaf more

pub first_more : (up : Bool) (path : ℕ) (x : Leaf) (xs : List Leaf) → first_value up path (x ∷ xs)
    ≡ cond (x.path.0 == path) (Some (sooner (value_before up) x.value (first_value up path xs))) (first_value up path xs)
first_more up path x xs = by (x.path.0 == path)
  where
    by : (b : Bool) → first_by (value_before up) (map (λ y. y.value) (cond b (x ∷ leaves_under path xs) (leaves_under path xs)))
        ≡ cond b (Some (sooner (value_before up) x.value (first_value up path xs))) (first_value up path xs)
    by true = refl
    by false = refl

pub first_here : (up : Bool) (path : ℕ) (x : Leaf) (xs whole : List Leaf) (known next : Option FacetValue) → (x.path.0 == path) ≡ true → x ∷ xs ≡ whole
    → known ≡ first_value up path xs → next ≡ Some (sooner (value_before up) x.value known) → next ≡ first_value up path whole
first_here up path x xs whole known next here is before so =
    so ∙ ap (λ o. Some (sooner (value_before up) x.value o)) before
    ∙ sym (first_more up path x xs ∙ ap (λ b. cond b (Some (sooner (value_before up) x.value (first_value up path xs))) (first_value up path xs)) here)
    ∙ ap (first_value up path) is

-- ---- places

-- the ends at the paths of some leaves
abbrev pub ends_left : List Leaf → List Leaf → List (ℕ × Facet)
ends_left leaves rest = flat_map (ends_at leaves) (paths_of rest)

-- ---- which values come first

-- whether the value is there and is this one
abbrev pub is_that : FacetValue → Option FacetValue → Bool
is_that v None = false
is_that v (Some w) = is_same v w

paths_say : (path : ℕ) (leaves : List Leaf) → list_any (λ q. q == path) (paths_of leaves) ≡ has_path path leaves
paths_say path [] = refl
paths_say path (x ∷ xs) = by (has_path x.path.0 xs) (x.path.0 == path) refl refl (paths_say path xs)
  where
    by : (later same : Bool) → later ≡ has_path x.path.0 xs → same ≡ (x.path.0 == path) → list_any (λ q. q == path) (paths_of xs) ≡ has_path path xs
        → list_any (λ q. q == path) (cond later (paths_of xs) (x.path.0 ∷ paths_of xs)) ≡ (same || has_path path xs)
    by false same l s is = ap₂ (λ a b. a || b) (sym s) is
    by true false l s is = is
    by true true l s is = is ∙ ap (λ p. has_path p xs) (sym (eqb-true x.path.0 path (sym s))) ∙ sym l

none_under : (path : ℕ) (leaves : List Leaf) → has_path path leaves ≡ false → leaves_under path leaves ≡ []
none_under path [] h = refl
none_under path (x ∷ xs) h = by (x.path.0 == path) h (none_under path xs)
  where
    by : (b : Bool) → (b || has_path path xs) ≡ false → (has_path path xs ≡ false → leaves_under path xs ≡ [])
        → cond b (x ∷ leaves_under path xs) (leaves_under path xs) ≡ []
    by true h later = absurd (cc)
    by false h later = later h

-- a value of one direction among the ends of both
abbrev is_wanted : ℕ → Facet → ℕ × Facet → Bool
is_wanted path f x = (x.0 == path) && is_facet f x.1

one_end : (up : Bool) (path q : ℕ) (v : FacetValue) (o : Option FacetValue) → list_any (is_wanted path (end_facet up v)) (if_end up q o) ≡ ((q == path) && is_that v o)
one_end up path q v None = sym (and_false (q == path))
one_end true path q v (Some w) = or_false ((q == path) && is_same v w)
one_end false path q v (Some w) = or_false ((q == path) && is_same v w)

other_end : (path q : ℕ) (v : FacetValue) (o : Option FacetValue) → (list_any (is_wanted path (end_facet true v)) (if_end false q o) ≡ false)
    × (list_any (is_wanted path (end_facet false v)) (if_end true q o) ≡ false)
other_end path q v None = (refl, refl)
other_end path q v (Some w) = (ap (λ b. b || false) (and_false (q == path)), ap (λ b. b || false) (and_false (q == path)))

at_path : (up : Bool) (path q : ℕ) (v : FacetValue) (leaves : List Leaf) → list_any (is_wanted path (end_facet up v)) (ends_at leaves q)
    ≡ ((q == path) && is_that v (first_value up q leaves))
at_path true path q v leaves =
    list_any-append (is_wanted path (end_facet true v)) (end_at true q leaves) (end_at false q leaves)
    ∙ ap₂ (λ a b. a || b) (one_end true path q v (first_value true q leaves)) (other_end path q v (first_value false q leaves)).0
    ∙ or_false ((q == path) && is_that v (first_value true q leaves))
at_path false path q v leaves =
    list_any-append (is_wanted path (end_facet false v)) (end_at true q leaves) (end_at false q leaves)
    ∙ ap₂ (λ a b. a || b) (other_end path q v (first_value true q leaves)).1 (one_end false path q v (first_value false q leaves))

ends_say : (up : Bool) (path : ℕ) (v : FacetValue) (leaves : List Leaf) → list_any (is_wanted path (end_facet up v)) (ends_of leaves)
    ≡ is_that v (first_value up path leaves)
ends_say up path v leaves =
    any_flat (is_wanted path (end_facet up v)) (ends_at leaves) (paths_of leaves)
    ∙ any_same _ (λ q. (q == path) && is_that v (first_value up path leaves)) (paths_of leaves) (λ q. at_path up path q v leaves ∙ same q (q == path) refl)
    ∙ any_and (is_that v (first_value up path leaves)) (λ q. q == path) (paths_of leaves)
    ∙ ap (λ b. is_that v (first_value up path leaves) && b) (paths_say path leaves) ∙ by (has_path path leaves) refl
  where
    same : (q : ℕ) (b : Bool) → b ≡ (q == path) → (b && is_that v (first_value up q leaves)) ≡ (b && is_that v (first_value up path leaves))
    same q true s = ap (λ p. is_that v (first_value up p leaves)) (eqb-true q path (sym s))
    same q false s = refl

    and_true : (b : Bool) → (b && true) ≡ b
    and_true true = refl
    and_true false = refl

    by : (b : Bool) → b ≡ has_path path leaves → (is_that v (first_value up path leaves) && b) ≡ is_that v (first_value up path leaves)
    by true s = and_true (is_that v (first_value up path leaves))
    by false s = and_false (is_that v (first_value up path leaves))
        ∙ sym (ap (λ xs. is_that v (first_by (value_before up) (map (λ x. x.value) xs))) (none_under path leaves (sym s)))

pub end_says : (up : Bool) (path : ℕ) (v : FacetValue) (document : LeavesView) → has_facet path (end_facet up v) document
    ≡ is_that v (first_value up path document.leaves)
end_says up path v document =
    facets_say (is_wanted path (end_facet up v)) document
    ∙ ap₂ (λ a b. a || b) (any_never (λ x. (x.path.0 == path) && is_facet (end_facet up v) (leaf x.value)) document.leaves
    (λ x. ap (λ b. (x.path.0 == path) && b) (no_leaf up x.value) ∙ and_false (x.path.0 == path)))
    (ap₂ (λ a b. a || b) (any_never (λ x. (x.path.0 == path) && is_facet (end_facet up v) (mark x.kind)) document.marks
    (λ x. ap (λ b. (x.path.0 == path) && b) (no_mark up x.kind) ∙ and_false (x.path.0 == path)))
    (ap₂ (λ a b. a || b) (ends_say up path v document.leaves)
    (counted_none (is_wanted path (end_facet up v)) [] document.leaves
    (λ q t. ap (λ b. (q == path) && b) (no_text up t) ∙ and_false (q == path))
    (λ q t s. ap (λ b. (q == path) && b) (no_spelling up t s) ∙ and_false (q == path)))
    ∙ or_false (is_that v (first_value up path document.leaves))))
  where
    no_leaf : (up : Bool) (w : FacetValue) → is_facet (end_facet up v) (leaf w) ≡ false
    no_leaf true w = refl
    no_leaf false w = refl

    no_mark : (up : Bool) (k : MarkKind) → is_facet (end_facet up v) (mark k) ≡ false
    no_mark true k = refl
    no_mark false k = refl

    no_text : (up : Bool) (t : List ℕ) → is_facet (end_facet up v) (counted t) ≡ false
    no_text true t = refl
    no_text false t = refl

    no_spelling : (up : Bool) (t s : List ℕ) → is_facet (end_facet up v) (spelling t s) ≡ false
    no_spelling true t s = refl
    no_spelling false t s = refl
