-- The least and the greatest number of lists with one more behind.
use Rattle.std.proofs.Common.{◌≡◌, List, [], ◌∷◌, ◌++◌, Option, Some, None, refl, sym, ap, ◌∙◌, arith, append-nil}
use Rattle.std.specs.Prelude.{ℤ}
use Rattle.search_base.specs.declared.document.Leaf.{Leaf}
use Rattle.search_base.specs.declared.value.FacetValue.{FacetValue}
use Rattle.search_base.specs.declared.value.FacetValue.TheVariants as facet
use Rattle.search_base.specs.SortKeys.{numbers, with_number, sooner, first_by, is_less, is_greater}
use Rattle.facet_counts.specs.Counting.{joined}

less-two : (n x : ℤ) → sooner is_less x (Some n) ≡ sooner is_less n (Some x)
less-two n x = grind arith

less-three : (n x y : ℤ) → sooner is_less x (Some (sooner is_less n (Some y))) ≡ sooner is_less n (Some (sooner is_less x (Some y)))
less-three n x y = grind arith

greater-two : (n x : ℤ) → sooner is_greater x (Some n) ≡ sooner is_greater n (Some x)
greater-two n x = grind arith

greater-three : (n x y : ℤ) → sooner is_greater x (Some (sooner is_greater n (Some y))) ≡ sooner is_greater n (Some (sooner is_greater x (Some y)))
greater-three n x y = grind arith

least-behind : (ns : List ℤ) (n : ℤ) → first_by is_less (ns ++ n ∷ []) ≡ Some (sooner is_less n (first_by is_less ns))
least-behind [] n = refl
least-behind (x ∷ ns) n = ap (λ r. Some (sooner is_less x r)) (least-behind ns n) ∙ by (first_by is_less ns)
  where
    by : (r : Option ℤ) → Some (sooner is_less x (Some (sooner is_less n r))) ≡ Some (sooner is_less n (Some (sooner is_less x r)))
    by None = ap Some (less-two n x)
    by (Some y) = ap Some (less-three n x y)

greatest-behind : (ns : List ℤ) (n : ℤ) → first_by is_greater (ns ++ n ∷ []) ≡ Some (sooner is_greater n (first_by is_greater ns))
greatest-behind [] n = refl
greatest-behind (x ∷ ns) n = ap (λ r. Some (sooner is_greater x r)) (greatest-behind ns n) ∙ by (first_by is_greater ns)
  where
    by : (r : Option ℤ) → Some (sooner is_greater x (Some (sooner is_greater n r))) ≡ Some (sooner is_greater n (Some (sooner is_greater x r)))
    by None = ap Some (greater-two n x)
    by (Some y) = ap Some (greater-three n x y)

with-behind : (value : FacetValue) (ns : List ℤ) (more : List ℤ) → with_number value ns ++ more ≡ with_number value (ns ++ more)
with-behind (facet.Number n) ns more = refl
with-behind (facet.Text form) ns more = refl

numbers-behind : (leaves : List Leaf) (leaf : Leaf) → numbers (leaves ++ leaf ∷ []) ≡ numbers leaves ++ with_number leaf.value []
numbers-behind [] leaf = refl
numbers-behind (l ∷ leaves) leaf = ap (with_number l.value) (numbers-behind leaves leaf) ∙ sym (with-behind l.value (numbers leaves) (with_number leaf.value []))

least-joined : (value : FacetValue) (ns : List ℤ) → first_by is_less (ns ++ with_number value []) ≡ joined is_less value (first_by is_less ns)
least-joined (facet.Number n) ns = least-behind ns n
least-joined (facet.Text form) ns = ap (first_by is_less) (append-nil ns)

greatest-joined : (value : FacetValue) (ns : List ℤ) → first_by is_greater (ns ++ with_number value []) ≡ joined is_greater value (first_by is_greater ns)
greatest-joined (facet.Number n) ns = greatest-behind ns n
greatest-joined (facet.Text form) ns = ap (first_by is_greater) (append-nil ns)

pub least-of-leaves : (leaves : List Leaf) (leaf : Leaf) → first_by is_less (numbers (leaves ++ leaf ∷ [])) ≡ joined is_less leaf.value (first_by is_less (numbers leaves))
least-of-leaves leaves leaf = ap (first_by is_less) (numbers-behind leaves leaf) ∙ least-joined leaf.value (numbers leaves)

pub greatest-of-leaves : (leaves : List Leaf) (leaf : Leaf) → first_by is_greater (numbers (leaves ++ leaf ∷ [])) ≡ joined is_greater leaf.value (first_by is_greater (numbers leaves))
greatest-of-leaves leaves leaf = ap (first_by is_greater) (numbers-behind leaves leaf) ∙ greatest-joined leaf.value (numbers leaves)
