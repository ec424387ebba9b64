-- Tests that imply others, and conditions that are asked one after another.
use Rattle.std.proofs.Common.{◌≡◌, ℕ, ℤ, pos, negsuc, ◌+◌, ◌<◌, ◌≤◌, Bool, true, false, not, ◌&&◌, cond, List, drop, length, get_or, Option, Some, None, Result, Ok, Err, refl, ap, ap₂, sym, subst, ◌∙◌, arith}
use Rattle.std.specs.Prelude.{int_lt, int_le}
use Rattle.std.specs.List.{filter, list_any, list_all}
use Rattle.std.specs.List.Sorted.{IsPermutation}
use Rattle.std.specs.Option.{IfSome, IsSomeAnd}
use Rattle.std.specs.Result.{IfOk}
use Rattle.std.proofs.lemmas.Bool.Decides.{nat_tests}
use Rattle.search_base.specs.declared.document.Leaf.{Leaf}
use Rattle.search_base.specs.declared.document.Mark.{Mark}
use Rattle.search_base.specs.declared.value.FacetValue.{FacetValue}
use Rattle.search_base.specs.declared.value.FacetValue.TheVariants as facet
use Rattle.filter_tree.specs.declared.tree.Test.{Test}
use Rattle.filter_tree.specs.declared.tree.Test.TheVariants as t
use Rattle.filter_tree.specs.View.{test_view}
use Rattle.row_filter.specs.Holds.{meets, is_number_that, some_number}
use Rattle.doc_sets.specs.Sets.{has}
use Rattle.doc_sets.specs.SetView.{SetView}
use Rattle.facet_index.proofs.TestLemmas.{both, any_implies}
use Rattle.filter_sets.specs.declared.source.Facets.{Facets}
use Rattle.filter_sets.specs.declared.conditions.Condition.{Condition}
use Rattle.filter_sets.specs.Selects.{Selects}
use Rattle.filter_sets.specs.Conditions.{is_met, Implies}
use Rattle.filter_sets.proofs.SweepLemmas.{AddsAny, AreFound, NarrowsAll, AllPass, all_passed, any_passed, pass_weaker, all_moved, any_moved, any_selected}
use Rattle.filter_sets.proofs.TestLemmas.{selects_same}

-- ---- the order of numbers

pub from_below : (a b c : ℤ) → int_lt b a ≡ false → int_lt b c ≡ true → int_lt a c ≡ true
from_below (pos a) (pos b) (pos c) h k = grind (arith, nat_tests)
from_below (pos a) (pos b) (negsuc c) h k = k
from_below (pos a) (negsuc b) c h k = ap (λ t. cond t (int_lt (pos a) c) true) h
from_below (negsuc a) (pos b) (pos c) h k = refl
from_below (negsuc a) (pos b) (negsuc c) h k = ap (λ t. cond t true (int_lt (negsuc a) (negsuc c))) k
from_below (negsuc a) (negsuc b) (pos c) h k = refl
from_below (negsuc a) (negsuc b) (negsuc c) h k = grind (arith, nat_tests)

pub to_above : (a b c : ℤ) → int_lt c b ≡ false → int_lt a b ≡ true → int_lt a c ≡ true
to_above (pos a) (pos b) (pos c) h k = grind (arith, nat_tests)
to_above (pos a) (pos b) (negsuc c) h k = sym h
to_above (pos a) (negsuc b) c h k = ap (λ t. cond t true (int_lt (pos a) c)) k
to_above (negsuc a) (pos b) (pos c) h k = refl
to_above (negsuc a) (pos b) (negsuc c) h k = ap (λ t. cond t (int_lt (negsuc a) (negsuc c)) true) h
to_above (negsuc a) (negsuc b) (pos c) h k = refl
to_above (negsuc a) (negsuc b) (negsuc c) h k = grind (arith, nat_tests)

-- what follows from a test the other way round
turned : (a b : Bool) → (a ≡ true → b ≡ true) → not b ≡ true → not a ≡ true
turned true true f h = h
turned true false f h = f refl
turned false b f h = refl

pub at_least_weaker : (m n k : ℤ) → int_lt n m ≡ false → not (int_lt k n) ≡ true → not (int_lt k m) ≡ true
at_least_weaker m n k h = turned (int_lt k m) (int_lt k n) (to_above k m n h)

pub at_most_weaker : (m n k : ℤ) → int_lt m n ≡ false → not (int_lt n k) ≡ true → not (int_lt m k) ≡ true
at_most_weaker m n k h = turned (int_lt m k) (int_lt n k) (from_below n m k h)

-- ---- tests of numbers

number_weaker : (p q : ℤ → Bool) → ((k : ℤ) → p k ≡ true → q k ≡ true) → (leaves : List Leaf) → some_number p leaves ≡ true → some_number q leaves ≡ true
number_weaker p q weaker leaves = any_implies (λ x. is_number_that p x.value) (λ x. is_number_that q x.value) leaves (λ x. by x.value)
  where
    by : (v : FacetValue) → is_number_that p v ≡ true → is_number_that q v ≡ true
    by (facet.Number n) h = weaker n h
    by (facet.Text t) h = h

pub above_implies : (n m : ℤ) → int_lt n m ≡ false → (leaves : List Leaf) → some_number (λ k. int_lt n k) leaves ≡ true → some_number (λ k. int_lt m k) leaves ≡ true
above_implies n m h = number_weaker (λ k. int_lt n k) (λ k. int_lt m k) (λ k. from_below m n k h)

pub at_least_implies : (n m : ℤ) → int_lt n m ≡ false → (leaves : List Leaf)
    → some_number (λ k. not (int_lt k n)) leaves ≡ true → some_number (λ k. not (int_lt k m)) leaves ≡ true
at_least_implies n m h = number_weaker (λ k. not (int_lt k n)) (λ k. not (int_lt k m)) (λ k. at_least_weaker m n k h)

pub below_implies : (n m : ℤ) → int_lt m n ≡ false → (leaves : List Leaf) → some_number (λ k. int_lt k n) leaves ≡ true → some_number (λ k. int_lt k m) leaves ≡ true
below_implies n m h = number_weaker (λ k. int_lt k n) (λ k. int_lt k m) (λ k. to_above k n m h)

pub at_most_implies : (n m : ℤ) → int_lt m n ≡ false → (leaves : List Leaf)
    → some_number (λ k. not (int_lt n k)) leaves ≡ true → some_number (λ k. not (int_lt m k)) leaves ≡ true
at_most_implies n m h = number_weaker (λ k. not (int_lt n k)) (λ k. not (int_lt m k)) (λ k. at_most_weaker m n k h)

pub between_implies : (low high lower higher : ℤ) → int_lt low lower ≡ false → int_lt higher high ≡ false → (leaves : List Leaf)
    → some_number (λ k. not (int_lt k low) && not (int_lt high k)) leaves ≡ true → some_number (λ k. not (int_lt k lower) && not (int_lt higher k)) leaves ≡ true
between_implies low high lower higher h g = number_weaker (λ k. not (int_lt k low) && not (int_lt high k)) (λ k. not (int_lt k lower) && not (int_lt higher k))
    (λ k inside. let parts = both (not (int_lt k low)) (not (int_lt high k)) inside in
    ap₂ (λ a b. a && b) (at_least_weaker lower low k h parts.0) (at_most_weaker higher high k g parts.1))

-- ---- pairs of tests

-- what meets the one test meets the other
abbrev pub IsWeaker : Test → Test → Type 0
IsWeaker test other = (leaves : List Leaf) (marks : List Mark) → meets (test_view test) leaves marks ≡ true → meets (test_view other) leaves marks ≡ true

not_above : (m n : ℤ) → int_le m n ≡ true → int_lt n m ≡ false
not_above (pos a) (pos b) h = grind (arith, nat_tests)
not_above (pos a) (negsuc b) h = sym h
not_above (negsuc a) (pos b) h = refl
not_above (negsuc a) (negsuc b) h = grind (arith, nat_tests)

pub no_greater : (a b a' b' : ℤ) → a' ≡ a → b' ≡ b → int_le a' b' ≡ true → int_lt b a ≡ false
no_greater a b a' b' e f h = sym (ap₂ (λ (x y : ℤ). int_lt y x) e f) ∙ not_above a' b' h

as_tests : (test other one two : Test) → test ≡ one → other ≡ two → IsWeaker one two → IsWeaker test other
as_tests test other one two is also weaker = λ leaves marks met.
    subst (λ x. meets (test_view x) leaves marks ≡ true) (sym also) (weaker leaves marks (subst (λ x. meets (test_view x) leaves marks ≡ true) is met))

pub above_weaker : (test other : Test) (n m : ℤ) → test ≡ t.Above n → other ≡ t.Above m → int_lt n m ≡ false → IsWeaker test other
above_weaker test other n m is also h = as_tests test other (t.Above n) (t.Above m) is also (λ leaves marks. above_implies n m h leaves)

pub from_weaker : (test other : Test) (n m : ℤ) → test ≡ t.AtLeast n → other ≡ t.AtLeast m → int_lt n m ≡ false → IsWeaker test other
from_weaker test other n m is also h = as_tests test other (t.AtLeast n) (t.AtLeast m) is also (λ leaves marks. at_least_implies n m h leaves)

pub below_weaker : (test other : Test) (n m : ℤ) → test ≡ t.Below n → other ≡ t.Below m → int_lt m n ≡ false → IsWeaker test other
below_weaker test other n m is also h = as_tests test other (t.Below n) (t.Below m) is also (λ leaves marks. below_implies n m h leaves)

pub up_to_weaker : (test other : Test) (n m : ℤ) → test ≡ t.AtMost n → other ≡ t.AtMost m → int_lt m n ≡ false → IsWeaker test other
up_to_weaker test other n m is also h = as_tests test other (t.AtMost n) (t.AtMost m) is also (λ leaves marks. at_most_implies n m h leaves)

pub between_weaker : (test other : Test) (low high lower higher : ℤ) → test ≡ t.Between low high → other ≡ t.Between lower higher
    → int_lt low lower ≡ false → int_lt higher high ≡ false → IsWeaker test other
between_weaker test other low high lower higher is also h g =
    as_tests test other (t.Between low high) (t.Between lower higher) is also (λ leaves marks. between_implies low high lower higher h g leaves)

-- ---- conditions one after another

pub each_passed : (facets : Facets) (xs : List Condition) (i : ℕ) (x : Condition) (last : Option Condition) (docs ids : List ℕ)
    → i < length xs → x ≡ get_or xs i x → IsSomeAnd last (λ other. Implies other x)
    → NarrowsAll facets is_met (drop i xs) docs xs ids × IfSome last (λ condition. AllPass facets (λ rows. is_met rows condition) docs)
    → NarrowsAll facets is_met (drop (i + 1) xs) docs xs ids × IfSome last (λ condition. AllPass facets (λ rows. is_met rows condition) docs)
each_passed facets xs i x None docs ids inside is implied invariant = absurd implied
each_passed facets xs i x (Some other) docs ids inside is implied invariant = (
  all_passed facets is_met xs i x docs ids inside is
      (pass_weaker facets (λ rows. is_met rows other) (λ rows. is_met rows x) docs implied invariant.1) invariant.0,
  invariant.1,
)

pub one_passed : (facets : Facets) (xs : List Condition) (i : ℕ) (x : Condition) (last : Option Condition) (found ids : List ℕ)
    → i < length xs → x ≡ get_or xs i x → IsSomeAnd last (λ other. Implies x other)
    → AddsAny facets is_met (drop i xs) found xs ids × IfSome last (λ condition. AreFound facets (λ rows. is_met rows condition) found ids)
    → AddsAny facets is_met (drop (i + 1) xs) found xs ids × IfSome last (λ condition. AreFound facets (λ rows. is_met rows condition) found ids)
one_passed facets xs i x None found ids inside is implies invariant = absurd implies
one_passed facets xs i x (Some other) found ids inside is implies invariant = (
  any_passed facets is_met xs i x found ids inside is
      (λ documents rows of are d met there. invariant.1 documents rows of are d (implies (rows d) met) there) invariant.0,
  invariant.1,
)

pub each_answer : {E : Type 0} (facets : Facets) (xs ys zs : List Condition) (ids : List ℕ) → zs ≡ ys → IsPermutation xs ys → (r : Result SetView E)
    → IfOk r (λ docs. Selects facets (λ rows. list_all (is_met rows) zs) ids docs.ids) → IfOk r (λ docs. Selects facets (λ rows. list_all (is_met rows) xs) ids docs.ids)
each_answer facets xs ys zs ids same moved (Ok docs) h = selects_same facets (λ rows. list_all (is_met rows) zs) (λ rows. list_all (is_met rows) xs) ids docs.ids
    (λ rows. ap (list_all (is_met rows)) same ∙ all_moved (is_met rows) xs ys moved) h
each_answer facets xs ys zs ids same moved (Err e) h = tt

pub one_answer : {E : Type 0} (facets : Facets) (xs ys zs : List Condition) (ids : List ℕ) → zs ≡ ys → IsPermutation xs ys → (r : Result SetView E)
    → IfOk r (λ docs. Selects facets (λ rows. list_any (is_met rows) zs) ids docs.ids) → IfOk r (λ docs. Selects facets (λ rows. list_any (is_met rows) xs) ids docs.ids)
one_answer facets xs ys zs ids same moved (Ok docs) h = selects_same facets (λ rows. list_any (is_met rows) zs) (λ rows. list_any (is_met rows) xs) ids docs.ids
    (λ rows. ap (list_any (is_met rows)) same ∙ any_moved (is_met rows) xs ys moved) h
one_answer facets xs ys zs ids same moved (Err e) h = tt

pub one_selected_answer : {E : Type 0} (facets : Facets) (xs : List Condition) (i : ℕ) (found ids : List ℕ) → length xs ≤ i
    → AddsAny facets is_met (drop i xs) found xs ids → (r : Result SetView E)
    → IfOk r (λ docs. (passes : ℕ → Bool) → ((d : ℕ) → has found d ≡ (passes d && has ids d)) → docs.ids ≡ filter passes ids)
    → IfOk r (λ docs. Selects facets (λ rows. list_any (is_met rows) xs) ids docs.ids)
one_selected_answer facets xs i found ids past adds (Ok docs) h = any_selected facets is_met xs i found docs.ids ids past adds h
one_selected_answer facets xs i found ids past adds (Err e) h = tt
