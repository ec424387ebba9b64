-- The first of numbers, in a direction.
use Rattle.std.proofs.Common.{◌≡◌, ℕ, ℤ, pos, negsuc, Bool, true, false, cond, int_lt, List, [], ◌∷◌, ◌++◌, Option, None, Some, map, refl, sym, ap, ◌∙◌, arith}
use Rattle.std.proofs.lemmas.Bool.Decides.{nat_tests}
use Rattle.search_base.specs.declared.document.Leaf.{Leaf}
use Rattle.search_base.specs.declared.value.FacetValue.{FacetValue}
use Rattle.search_base.specs.declared.value.FacetValue.TheVariants as facet
use Rattle.search_base.specs.RowsView.{RowsView}
use Rattle.search_base.specs.SortKeys.{leaves_under, with_number, numbers, sooner, first_by}
use Rattle.facet_counts.specs.Counts.{leaves_at}
use Rattle.list_facets.specs.Ends.{comes_first}

-- ---- the order of a direction

not_less_twice : (a b c : ℤ) → int_lt a b ≡ false → int_lt b c ≡ false → int_lt a c ≡ false
not_less_twice (pos a) (pos b) (pos c) h k = grind (arith, nat_tests)
not_less_twice (pos a) (pos b) (negsuc c) h k = refl
not_less_twice (pos a) (negsuc b) (pos c) h k = absurd (cc)
not_less_twice (pos a) (negsuc b) (negsuc c) h k = refl
not_less_twice (negsuc a) (pos b) c h k = absurd (cc)
not_less_twice (negsuc a) (negsuc b) (pos c) h k = absurd (cc)
not_less_twice (negsuc a) (negsuc b) (negsuc c) h k = grind (arith, nat_tests)

less_one_way : (a b : ℤ) → int_lt a b ≡ true → int_lt b a ≡ false
less_one_way (pos a) (pos b) h = grind (arith, nat_tests)
less_one_way (pos a) (negsuc b) h = absurd (cc)
less_one_way (negsuc a) (pos b) h = refl
less_one_way (negsuc a) (negsuc b) h = grind (arith, nat_tests)

one_way : (up : Bool) (m n : ℤ) → comes_first up m n ≡ true → comes_first up n m ≡ false
one_way true m n h = less_one_way m n h
one_way false m n h = less_one_way n m h

not_twice : (up : Bool) (a b c : ℤ) → comes_first up a b ≡ false → comes_first up b c ≡ false → comes_first up a c ≡ false
not_twice true a b c h k = not_less_twice a b c h k
not_twice false a b c h k = not_less_twice c b a k h

chain : (up : Bool) (a b c : ℤ) → comes_first up a b ≡ true → comes_first up b c ≡ true → comes_first up a c ≡ true
chain up a b c h k = by (comes_first up a c) refl
  where
    by : (d : Bool) → d ≡ comes_first up a c → comes_first up a c ≡ true
    by true s = sym s
    by false s = absurd (let e : true ≡ false = sym h ∙ not_twice up a c b (sym s) (one_way up b c k) in cc)

-- ---- the first of two lists

-- of two numbers that may be there, the one that comes first
abbrev pub sooner_of : Bool → Option ℤ → Option ℤ → Option ℤ
sooner_of up None other = other
sooner_of up (Some m) other = Some (sooner (comes_first up) m other)

sooner_twice : (up : Bool) (x : ℤ) (a b : Option ℤ)
    → sooner (comes_first up) x (sooner_of up a b) ≡ sooner (comes_first up) (sooner (comes_first up) x a) b
sooner_twice up x None b = refl
sooner_twice up x (Some m) None = refl
sooner_twice up x (Some m) (Some n) = by (comes_first up n m) (comes_first up m x) refl refl
  where
    by : (s t : Bool) → s ≡ comes_first up n m → t ≡ comes_first up m x
        → cond (comes_first up (cond s n m) x) (cond s n m) x ≡ cond (comes_first up n (cond t m x)) n (cond t m x)
    by true true p q = ap (λ b. cond b n x) (chain up n m x (sym p) (sym q)) ∙ ap (λ b. cond b n m) p
    by true false p q = refl
    by false true p q = ap (λ b. cond b m x) (sym q) ∙ ap (λ b. cond b n m) p
    by false false p q = ap (λ b. cond b m x) (sym q) ∙ sym (ap (λ b. cond b n x) (not_twice up n m x (sym p) (sym q)))

first_append : (up : Bool) (xs ys : List ℤ)
    → first_by (comes_first up) (xs ++ ys) ≡ sooner_of up (first_by (comes_first up) xs) (first_by (comes_first up) ys)
first_append up [] ys = refl
first_append up (x ∷ xs) ys = ap (λ o. Some (sooner (comes_first up) x o)) (first_append up xs ys)
    ∙ ap Some (sooner_twice up x (first_by (comes_first up) xs) (first_by (comes_first up) ys))

-- ---- the numbers of documents

numbers_append : (xs ys : List Leaf) → numbers (xs ++ ys) ≡ numbers xs ++ numbers ys
numbers_append [] ys = refl
numbers_append (x ∷ xs) ys = by x.value (numbers_append xs ys)
  where
    by : (v : FacetValue) → numbers (xs ++ ys) ≡ numbers xs ++ numbers ys → with_number v (numbers (xs ++ ys)) ≡ with_number v (numbers xs) ++ numbers ys
    by (facet.Number n) later = ap (λ ns. n ∷ ns) later
    by (facet.Text text) later = later

-- the numbers of a document
abbrev pub numbers_in : ℕ → RowsView → List ℤ
numbers_in path rows = numbers (leaves_under path rows.leaves)

-- the first number of one document more
pub first_of_more : (up : Bool) (path : ℕ) (rows : ℕ → RowsView) (d : ℕ) (ds : List ℕ)
    → first_by (comes_first up) (numbers (leaves_at path (map rows (d ∷ ds))))
    ≡ sooner_of up (first_by (comes_first up) (numbers_in path (rows d))) (first_by (comes_first up) (numbers (leaves_at path (map rows ds))))
first_of_more up path rows d ds =
    ap (first_by (comes_first up)) (numbers_append (leaves_under path (rows d).leaves) (leaves_at path (map rows ds)))
    ∙ first_append up (numbers_in path (rows d)) (numbers (leaves_at path (map rows ds)))
