-- Documents with their numbers, while a universe is gone over.
use Rattle.std.proofs.Common.{◌≡◌, ℕ, ◌<◌, Bool, true, false, ◌==◌, ◌&&◌, ◌||◌, cond, ℤ, List, [], ◌∷◌, ◌++◌, map, int_lt, refl, sym, ap, ap₂, subst, ◌∙◌}
use Rattle.std.specs.List.{filter, list_any, AllByRecursion}
use Rattle.std.proofs.lemmas.List.{map-append, append-nil}
use Rattle.search_base.specs.declared.document.DocId.{DocId}
use Rattle.search_base.specs.declared.document.Leaf.{Leaf}
use Rattle.search_base.specs.declared.value.FacetValue.{FacetValue}
use Rattle.search_base.specs.declared.value.FacetValue.TheVariants as facet
use Rattle.search_base.specs.SortKeys.{leaves_under}
use Rattle.doc_sets.specs.Sets.{AreAbove, IsIncreasing, with_id}
use Rattle.doc_sets.proofs.SetLemmas.{put-more}
use Rattle.facet_index.specs.Documents.{is_number_that, is_between}
use Rattle.facet_index.specs.Ends.{values_under}
use Rattle.leaf_table.specs.declared.columns.TheConstants.{OTHER}
use Rattle.leaf_table.specs.Tables.{TableView, kept_at}
use Rattle.leaf_table.specs.Columns.{Tells}
use Rattle.leaf_table.specs.Numbers.{has_between, AreNumbersOf}

-- ---- whether a number is inside

-- whether the value of a leaf is a number from the one to the other
abbrev pub is_in : ℤ → ℤ → Leaf → Bool
is_in low high leaf = is_number_that (is_between low high) leaf.value

any_append : (p : Leaf → Bool) (xs ys : List Leaf) → list_any p (xs ++ ys) ≡ (list_any p xs || list_any p ys)
any_append p [] ys = refl
any_append p (x ∷ xs) ys = by (p x) (any_append p xs ys)
  where
    by : (b : Bool) → list_any p (xs ++ ys) ≡ (list_any p xs || list_any p ys) → (b || list_any p (xs ++ ys)) ≡ ((b || list_any p xs) || list_any p ys)
    by true later = refl
    by false later = later

-- a leaf more, which is one of them
pub last_in : (low high : ℤ) (leaves rest : List Leaf) (leaf : Leaf) → is_in low high leaf ≡ true
    → list_any (is_in low high) ((leaves ++ leaf ∷ []) ++ rest) ≡ true
last_in low high [] rest leaf is = ap (λ b. b || list_any (is_in low high) rest) is
last_in low high (x ∷ xs) rest leaf is = by (is_in low high x) (last_in low high xs rest leaf is)
  where
    by : (b : Bool) → list_any (is_in low high) ((xs ++ leaf ∷ []) ++ rest) ≡ true → (b || list_any (is_in low high) ((xs ++ leaf ∷ []) ++ rest)) ≡ true
    by true later = refl
    by false later = later

-- and which is none
pub last_out : (low high : ℤ) (leaves : List Leaf) (leaf : Leaf) → list_any (is_in low high) leaves ≡ false → is_in low high leaf ≡ false
    → list_any (is_in low high) (leaves ++ leaf ∷ []) ≡ false
last_out low high leaves leaf none out =
    any_append (is_in low high) leaves (leaf ∷ [])
    ∙ ap₂ (λ b c. b || (c || false)) none out

any_under : (p : FacetValue → Bool) (path : ℕ) (leaves : List Leaf)
    → list_any (λ (x : Leaf). (x.path.0 == path) && p x.value) leaves ≡ list_any p (values_under path leaves)
any_under p path [] = refl
any_under p path (x ∷ xs) = by (x.path.0 == path) (any_under p path xs)
  where
    by : (b : Bool) → list_any (λ (y : Leaf). (y.path.0 == path) && p y.value) xs ≡ list_any p (values_under path xs)
        → ((b && p x.value) || list_any (λ (y : Leaf). (y.path.0 == path) && p y.value) xs)
        ≡ list_any p (map (λ (y : Leaf). y.value) (cond b (x ∷ leaves_under path xs) (leaves_under path xs)))
    by true later = ap (λ b. p x.value || b) later
    by false later = later

or_false : (b : Bool) → (b || false) ≡ b
or_false true = refl
or_false false = refl

module _ (path : ℕ) (low high cell : ℤ) (leaves : List Leaf) (told : Tells cell (leaves_under path leaves)) where
  -- a number decides
  pub number_decides : int_lt OTHER cell ≡ true → is_between low high cell ≡ has_between path low high leaves
  number_decides number =
      sym (any_under (is_number_that (is_between low high)) path leaves
      ∙ ap (list_any (is_number_that (is_between low high))) (told.number number)
      ∙ or_false (is_between low high cell))

  -- where there is no leaf there is no number
  pub nothing_decides : int_lt cell OTHER ≡ true → false ≡ has_between path low high leaves
  nothing_decides nothing =
      sym (any_under (is_number_that (is_between low high)) path leaves
      ∙ ap (λ list. list_any (is_number_that (is_between low high)) (map (λ (x : Leaf). x.value) list)) (told.nothing nothing))

-- ---- documents that pass

-- what passed so far, and what is left of the universe
pub record IsSifted (passes : ℕ → Bool) (universe left found : List ℕ) : Type 0 where
  pub all : found ++ filter passes left ≡ filter passes universe
  pub increasing : IsIncreasing (found ++ left)

above_at : (a d : ℕ) (xs left : List ℕ) → AreAbove a (xs ++ d ∷ left) → a < d
above_at a d [] left above = above.0
above_at a d (x ∷ xs) left above = above_at a d xs left above.1

put_last : (d : ℕ) (xs left : List ℕ) → IsIncreasing (xs ++ d ∷ left) → with_id d xs ≡ xs ++ d ∷ []
put_last d [] left increasing = refl
put_last d (x ∷ xs) left increasing =
    put-more d x xs (above_at x d xs left increasing.0) ∙ ap (λ list. x ∷ list) (put_last d xs left increasing.1)

above_without : (a d : ℕ) (xs left : List ℕ) → AreAbove a (xs ++ d ∷ left) → AreAbove a (xs ++ left)
above_without a d [] left above = above.1
above_without a d (x ∷ xs) left above = (above.0, above_without a d xs left above.1)

increasing_without : (d : ℕ) (xs left : List ℕ) → IsIncreasing (xs ++ d ∷ left) → IsIncreasing (xs ++ left)
increasing_without d [] left increasing = increasing.1
increasing_without d (x ∷ xs) left increasing = (above_without x d xs left increasing.0, increasing_without d xs left increasing.1)

one_before : {X : Type 0} (xs ys : List X) (y : X) → (xs ++ y ∷ []) ++ ys ≡ xs ++ y ∷ ys
one_before [] ys y = refl
one_before (x ∷ xs) ys y = ap (λ list. x ∷ list) (one_before xs ys y)

module _ (passes : ℕ → Bool) (universe : List ℕ) where
  pub sifted_start : IsIncreasing universe → IsSifted passes universe universe []
  sifted_start increasing = record { all = refl; increasing = increasing }

  pub sifted_end : (found : List ℕ) → IsSifted passes universe [] found → found ≡ filter passes universe
  sifted_end found sifted = sym (append-nil found) ∙ sifted.all

  module _ (d : ℕ) (left found : List ℕ) (sifted : IsSifted passes universe (d ∷ left) found) where
    pub one_passes : passes d ≡ true → IsSifted passes universe left (with_id d found)
    one_passes passed =
        let last = put_last d found left sifted.increasing in
        record {
          all = ap (λ list. list ++ filter passes left) last ∙ one_before found (filter passes left) d
              ∙ ap (λ b. found ++ cond b (d ∷ filter passes left) (filter passes left)) (sym passed) ∙ sifted.all;
          increasing = subst IsIncreasing (sym (ap (λ list. list ++ left) last ∙ one_before found left d)) sifted.increasing;
        }

    pub one_fails : passes d ≡ false → IsSifted passes universe left found
    one_fails failed = record {
      all = ap (λ b. found ++ cond b (d ∷ filter passes left) (filter passes left)) (sym failed) ∙ sifted.all;
      increasing = increasing_without d found left sifted.increasing;
    }

-- ---- documents with their numbers

-- the documents that were gone over, and what is left of the universe
pub record AreNumbersYet (path : ℕ) (table : TableView) (universe left : List ℕ) (pairs : List (ℤ × DocId)) : Type 0 where
  pub ids : map (λ pair. pair.1.0) pairs ++ left ≡ universe
  pub only : AllByRecursion (λ pair. values_under path (kept_at pair.1.0 table) ≡ facet.Number pair.0 ∷ []) pairs

all_push : {X : Type 0} (P : X → Type 0) (xs : List X) (y : X) → AllByRecursion P xs → P y → AllByRecursion P (xs ++ y ∷ [])
all_push P [] y all last = (last, tt)
all_push P (x ∷ xs) y all last = (all.0, all_push P xs y all.1 last)

module _ (path : ℕ) (table : TableView) (universe : List ℕ) where
  pub numbers_start : AreNumbersYet path table universe universe []
  numbers_start = record { ids = refl; only = tt }

  pub numbers_end : (pairs : List (ℤ × DocId)) → AreNumbersYet path table universe [] pairs → AreNumbersOf path table universe pairs
  numbers_end pairs yet = record { ids = sym (append-nil (map (λ (pair : ℤ × DocId). pair.1.0) pairs)) ∙ yet.ids; only = yet.only }

  pub number_more : (id : DocId) (n : ℤ) (left : List ℕ) (pairs : List (ℤ × DocId)) → AreNumbersYet path table universe (id.0 ∷ left) pairs
      → values_under path (kept_at id.0 table) ≡ facet.Number n ∷ [] → AreNumbersYet path table universe left (pairs ++ (n, id) ∷ [])
  number_more id n left pairs yet is = record {
    ids = ap (λ list. list ++ left) (map-append (λ (pair : ℤ × DocId). pair.1.0) pairs ((n, id) ∷ []))
        ∙ one_before (map (λ (pair : ℤ × DocId). pair.1.0) pairs) left id.0 ∙ yet.ids;
    only = all_push (λ (pair : ℤ × DocId). values_under path (kept_at pair.1.0 table) ≡ facet.Number pair.0 ∷ []) pairs (n, id) yet.only is;
  }

-- the leaves under a path decide whether some leaf there is a number inside
pub in_under : (path : ℕ) (low high : ℤ) (leaves : List Leaf) → list_any (is_in low high) (leaves_under path leaves) ≡ has_between path low high leaves
in_under path low high [] = refl
in_under path low high (x ∷ xs) = by (x.path.0 == path) (in_under path low high xs)
  where
    by : (b : Bool) → list_any (is_in low high) (leaves_under path xs) ≡ has_between path low high xs
        → list_any (is_in low high) (cond b (x ∷ leaves_under path xs) (leaves_under path xs)) ≡ ((b && is_in low high x) || has_between path low high xs)
    by true later = ap (λ b. is_in low high x || b) later
    by false later = later
