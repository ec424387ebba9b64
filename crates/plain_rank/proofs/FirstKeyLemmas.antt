-- The first key of a path's leaves is the least or greatest number, else text.
use Rattle.std.proofs.Common.{◌≡◌, ℕ, ◌==◌, Bool, true, false, cond, List, [], ◌∷◌, Option, Some, None, refl, ap, ◌∙◌}
use Rattle.std.specs.Prelude.{ℤ}
use Rattle.search_base.specs.declared.cost_key.SortKey.TheVariants as sort
use Rattle.search_base.specs.declared.document.Leaf.{Leaf}
use Rattle.search_base.specs.declared.value.FacetValue.{FacetValue}
use Rattle.search_base.specs.declared.value.FacetValue.TheVariants as facet
use Rattle.search_base.specs.SortKeys.{leaves_under, numbers, texts, sooner, first_by, is_less, is_greater, is_text_less, is_text_greater, key_of, least_key, greatest_key}
use Rattle.plain_rank.specs.FirstKey.{value_key, former, first_key}

number_if : (b : Bool) (m n : ℤ) → cond b (sort.Number m) (sort.Number n) ≡ sort.Number (cond b m n)
number_if true m n = refl
number_if false m n = refl

text_if : (b : Bool) (v w : List ℕ) → cond b (sort.Text v) (sort.Text w) ≡ sort.Text (cond b v w)
text_if true v w = refl
text_if false v w = refl

-- ---- ascending
number-up : (n : ℤ) (least : Option ℤ) (text : Option (List ℕ)) → former true (sort.Number n) (key_of least text) ≡ sort.Number (sooner is_less n least)
number-up n (Some m) text = number_if (is_less m n) m n
number-up n None (Some v) = refl
number-up n None None = refl

text-up : (w : List ℕ) (number : Option ℤ) (least : Option (List ℕ)) → former true (sort.Text w) (key_of number least) ≡ key_of number (Some (sooner is_text_less w least))
text-up w (Some m) least = refl
text-up w None (Some v) = text_if (is_text_less v w) v w
text-up w None None = refl

leaf-up : (leaf : Leaf) (value : FacetValue) (rest : List Leaf) → leaf.value ≡ value → former true (value_key leaf.value) (least_key rest) ≡ least_key (leaf ∷ rest)
leaf-up leaf (facet.Number n) rest e = rw e (number-up n (first_by is_less (numbers rest)) (first_by is_text_less (texts rest)))
leaf-up leaf (facet.Text w) rest e = rw e (text-up w (first_by is_less (numbers rest)) (first_by is_text_less (texts rest)))

pub first_key-up : (path : ℕ) (leaves : List Leaf) → first_key true path leaves ≡ least_key (leaves_under path leaves)
first_key-up path [] = refl
first_key-up path (leaf ∷ leaves) = by (leaf.path.0 == path) (first_key-up path leaves)
  where
    by : (b : Bool) → first_key true path leaves ≡ least_key (leaves_under path leaves)
        → cond b (former true (value_key leaf.value) (first_key true path leaves)) (first_key true path leaves) ≡ least_key (cond b (leaf ∷ leaves_under path leaves) (leaves_under path leaves))
    by true h = ap (former true (value_key leaf.value)) h ∙ leaf-up leaf leaf.value (leaves_under path leaves) refl
    by false h = h

-- ---- descending
number-down : (n : ℤ) (greatest : Option ℤ) (text : Option (List ℕ)) → former false (sort.Number n) (key_of greatest text) ≡ sort.Number (sooner is_greater n greatest)
number-down n (Some m) text = number_if (is_greater m n) m n
number-down n None (Some v) = refl
number-down n None None = refl

text-down : (w : List ℕ) (number : Option ℤ) (greatest : Option (List ℕ)) → former false (sort.Text w) (key_of number greatest) ≡ key_of number (Some (sooner is_text_greater w greatest))
text-down w (Some m) greatest = refl
text-down w None (Some v) = text_if (is_text_greater v w) v w
text-down w None None = refl

leaf-down : (leaf : Leaf) (value : FacetValue) (rest : List Leaf) → leaf.value ≡ value → former false (value_key leaf.value) (greatest_key rest) ≡ greatest_key (leaf ∷ rest)
leaf-down leaf (facet.Number n) rest e = rw e (number-down n (first_by is_greater (numbers rest)) (first_by is_text_greater (texts rest)))
leaf-down leaf (facet.Text w) rest e = rw e (text-down w (first_by is_greater (numbers rest)) (first_by is_text_greater (texts rest)))

pub first_key-down : (path : ℕ) (leaves : List Leaf) → first_key false path leaves ≡ greatest_key (leaves_under path leaves)
first_key-down path [] = refl
first_key-down path (leaf ∷ leaves) = by (leaf.path.0 == path) (first_key-down path leaves)
  where
    by : (b : Bool) → first_key false path leaves ≡ greatest_key (leaves_under path leaves)
        → cond b (former false (value_key leaf.value) (first_key false path leaves)) (first_key false path leaves) ≡ greatest_key (cond b (leaf ∷ leaves_under path leaves) (leaves_under path leaves))
    by true h = ap (former false (value_key leaf.value)) h ∙ leaf-down leaf leaf.value (leaves_under path leaves) refl
    by false h = h
