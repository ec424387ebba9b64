-- Rows of numbers that name leaves.
use Rattle.std.proofs.Common.{◌≡◌, ℕ, zero, suc, ◌+◌, ◌<◌, Bool, true, false, ◌==◌, List, [], ◌∷◌, ◌++◌, Option, None, Some, IsSome, unwrap_or, length, take, drop, get_or, set, refl, sym, ap, ap₂, subst, ◌∙◌, arith}
use Rattle.std.specs.List.{All}
use Rattle.std.specs.Option.{option_map, option_to_list}
use Rattle.std.proofs.lemmas.Bool.{eqb-true, false≢true}
use Rattle.std.proofs.lemmas.Bool.Decides.{nat_tests}
use Rattle.std.proofs.lemmas.List.{get_or-set_same, get_or-set_other, append_assoc, append-nil, map-set, take_more, take_more_set, length-set, length-take-le, get_or-take, take-append-drop}
use Rattle.std.proofs.lemmas.List.Elements.{filter-append}
use Rattle.search_base.specs.declared.document.Leaf.{Leaf}
use Rattle.search_base.specs.SortKeys.{leaves_under}
use Rattle.leaf_table.specs.Columns.{leaves_in}
use Rattle.leaf_table.specs.Rows.{leaf_in, leaves_named, rows_named, Each}

-- ---- the leaves of numbers

named_append : (leaves : List (Option Leaf)) (xs ys : List ℕ) → leaves_named leaves (xs ++ ys) ≡ leaves_named leaves xs ++ leaves_named leaves ys
named_append leaves [] ys = refl
named_append leaves (x ∷ xs) ys =
    ap (λ list. option_to_list (leaf_in leaves x) ++ list) (named_append leaves xs ys)
    ∙ sym (append_assoc (option_to_list (leaf_in leaves x)) (leaves_named leaves xs) (leaves_named leaves ys))

module _ (leaves : List (Option Leaf)) (numbers : List ℕ) (i d : ℕ) (within : i < length numbers) where
  -- the leaves of one number more
  named_more : leaves_named leaves (take (i + 1) numbers) ≡ leaves_named leaves (take i numbers) ++ option_to_list (leaf_in leaves (get_or numbers i d))
  named_more =
      ap (leaves_named leaves) (take_more numbers i d within)
      ∙ named_append leaves (take i numbers) (get_or numbers i d ∷ [])
      ∙ ap (λ list. leaves_named leaves (take i numbers) ++ list) (append-nil (option_to_list (leaf_in leaves (get_or numbers i d))))

  under_more : (path : ℕ) → leaves_under path (leaves_named leaves (take (i + 1) numbers))
      ≡ leaves_under path (leaves_named leaves (take i numbers)) ++ leaves_under path (option_to_list (leaf_in leaves (get_or numbers i d)))
  under_more path =
      ap (leaves_under path) named_more
      ∙ filter-append (λ (x : Leaf). x.path.0 == path) (leaves_named leaves (take i numbers)) (option_to_list (leaf_in leaves (get_or numbers i d)))

  -- the leaves under a path of one number more, which has one there
  pub under_some : (path : ℕ) (leaf : Leaf) → leaf ∷ [] ≡ leaves_under path (option_to_list (leaf_in leaves (get_or numbers i d)))
      → leaves_under path (leaves_named leaves (take (i + 1) numbers)) ≡ leaves_under path (leaves_named leaves (take i numbers)) ++ leaf ∷ []
  under_some path leaf some = under_more path ∙ ap (λ list. leaves_under path (leaves_named leaves (take i numbers)) ++ list) (sym some)

  -- and which has none there
  pub under_none : (path : ℕ) → [] ≡ leaves_under path (option_to_list (leaf_in leaves (get_or numbers i d)))
      → leaves_under path (leaves_named leaves (take (i + 1) numbers)) ≡ leaves_under path (leaves_named leaves (take i numbers))
  under_none path none =
      under_more path ∙ ap (λ list. leaves_under path (leaves_named leaves (take i numbers)) ++ list) (sym none)
      ∙ append-nil (leaves_under path (leaves_named leaves (take i numbers)))

-- the leaves under a path of the first numbers, and of the others
pub under_split : (leaves : List (Option Leaf)) (numbers : List ℕ) (i path : ℕ) → leaves_under path (leaves_named leaves numbers)
    ≡ leaves_under path (leaves_named leaves (take i numbers)) ++ leaves_under path (leaves_named leaves (drop i numbers))
under_split leaves numbers i path =
    ap (λ ns. leaves_under path (leaves_named leaves ns)) (sym (take-append-drop i numbers))
    ∙ ap (leaves_under path) (named_append leaves (take i numbers) (drop i numbers))
    ∙ filter-append (λ (x : Leaf). x.path.0 == path) (leaves_named leaves (take i numbers)) (leaves_named leaves (drop i numbers))

-- ---- leaves that stay

-- each number that has a leaf keeps it
abbrev pub Stay : List (Option Leaf) → List (Option Leaf) → Type 0
Stay old new = (number : ℕ) (leaf : Leaf) → leaf_in old number ≡ Some leaf → leaf_in new number ≡ Some leaf

pub stays_same : (old new : List (Option Leaf)) → Stay old new → (n : ℕ) → IsSome (leaf_in old n) → leaf_in new n ≡ leaf_in old n
stays_same old new stay n some = by (leaf_in old n) refl some
  where
    by : (o : Option Leaf) → leaf_in old n ≡ o → IsSome o → leaf_in new n ≡ leaf_in old n
    by None e s = absurd (false≢true s)
    by (Some leaf) e s = stay n leaf e ∙ sym e

pub stays_some : (old new : List (Option Leaf)) → Stay old new → (n : ℕ) → IsSome (leaf_in old n) → IsSome (leaf_in new n)
stays_some old new stay n some = subst IsSome (sym (stays_same old new stay n some)) some

named_same : (old new : List (Option Leaf)) (numbers : List ℕ) → All (λ n. leaf_in new n ≡ leaf_in old n) numbers
    → leaves_named new numbers ≡ leaves_named old numbers
named_same old new [] all = refl
named_same old new (n ∷ ns) all =
    ap₂ (λ o rest. option_to_list o ++ rest) (all 0 n (omega arith)) (named_same old new ns (λ k d less. all (suc k) d (omega arith)))

module _ (old new : List (Option Leaf)) where
  abbrev pub Same : ℕ → Type 0
  Same n = leaf_in new n ≡ leaf_in old n

  pub rows_same : (rows : List (Option (List ℕ))) → Each Same rows → rows_named new rows ≡ rows_named old rows
  rows_same [] each = refl
  rows_same (row ∷ rows) each =
      ap₂ (λ r rest. r ∷ rest) (by row (each 0 row (omega arith))) (rows_same rows (λ k d less. each (suc k) d (omega arith)))
    where
      by : (r : Option (List ℕ)) → All Same (unwrap_or r []) → option_map (leaves_named new) r ≡ option_map (leaves_named old) r
      by None all = refl
      by (Some numbers) all = ap Some (named_same old new numbers all)

  pub each_same : (rows : List (Option (List ℕ))) → Stay old new → Each (λ n. IsSome (leaf_in old n)) rows → Each Same rows
  each_same rows stay each k d less j e inner = stays_same old new stay _ (each k d less j e inner)

  -- one row is set
  pub rows_set : (rows : List (Option (List ℕ))) (at : ℕ) (row : Option (List ℕ)) (leaves : Option (List Leaf)) → Each Same rows
      → option_map (leaves_named new) row ≡ leaves → rows_named new (set rows at row) ≡ set (rows_named old rows) at leaves
  rows_set rows at row leaves same is =
      map-set (option_map (leaves_named new)) rows at row
      ∙ ap₂ (λ list leaves. set list at leaves) (rows_same rows same) is

-- the row of numbers that have these leaves
pub some_named : (leaves : List (Option Leaf)) (row : Option (List ℕ)) (all : List Leaf) → IsSome row → leaves_named leaves (unwrap_or row []) ≡ all
    → option_map (leaves_named leaves) row ≡ Some all
some_named leaves None all some is = absurd (false≢true some)
some_named leaves (Some numbers) all some is = ap Some is

-- ---- a row more

pub each_push : (P : ℕ → Type 0) (rows : List (Option (List ℕ))) → Each P rows → Each P (rows ++ None ∷ [])
each_push P [] each zero d less = λ j e inner. absurd (omega (arith, inner))
each_push P [] each (suc k) d less = λ j e inner. absurd (omega (arith, less))
each_push P (row ∷ rows) each zero d less = each 0 d (omega arith)
each_push P (row ∷ rows) each (suc k) d less =
    each_push P rows (λ k d less. each (suc k) d (omega arith)) k d (omega (arith, less))

-- the leaves of a document, by its numbers
pub leaves_at : (leaves : List (Option Leaf)) (rows : List (Option (List ℕ))) (at : ℕ)
    → leaves_named leaves (unwrap_or (get_or rows at None) []) ≡ leaves_in at (rows_named leaves rows)
leaves_at leaves [] zero = refl
leaves_at leaves [] (suc at) = refl
leaves_at leaves (None ∷ rows) zero = refl
leaves_at leaves (Some numbers ∷ rows) zero = refl
leaves_at leaves (row ∷ rows) (suc at) = leaves_at leaves rows at

-- ---- the first of some numbers, one of which is set

pub taken_set : (n : ℕ) (numbers : List ℕ) (at number : ℕ) → take n (set numbers at number) ≡ set (take n numbers) at number
taken_set zero [] at number = refl
taken_set zero (x ∷ xs) at number = refl
taken_set (suc n) [] at number = refl
taken_set (suc n) (x ∷ xs) zero number = refl
taken_set (suc n) (x ∷ xs) (suc at) number = ap (λ list. x ∷ list) (taken_set n xs at number)

-- ---- leaves that are given numbers

-- the first of a row's numbers have the first of the leaves, and the others are left
pub record IsNumbering (old now : List (Option Leaf)) (numbers : List ℕ) (at : ℕ) (all left : List Leaf) : Type 0 where
  pub leaves : leaves_named now (take at numbers) ++ left ≡ all
  pub named : (k d : ℕ) → k < at → IsSome (leaf_in now (get_or numbers k d))
  pub stay : Stay old now
  pub len : at + length left ≡ length numbers
  pub count : at + length left ≡ length all

-- one leaf more has a number, which is set
pub one_numbered : (old now new : List (Option Leaf)) (numbers : List ℕ) (at n : ℕ) (all left : List Leaf) (leaf : Leaf)
    → IsNumbering old now numbers at all (leaf ∷ left) → Stay now new → leaf_in new n ≡ Some leaf
    → IsNumbering old new (set numbers at n) (at + 1) all left
one_numbered old now new numbers at n all left leaf is stay here = record {
  leaves = ap (λ ns. leaves_named new ns ++ left) (take_more_set numbers at n within)
      ∙ ap (λ list. list ++ left) (named_append new (take at numbers) (n ∷ []) ∙ ap₂ (λ xs ys. xs ++ ys) before last)
      ∙ append_assoc (leaves_named now (take at numbers)) (leaf ∷ []) left
      ∙ is.leaves;
  named = λ k d less. named_yet k d less (k == at) refl;
  stay = λ m other e. stay m other (is.stay m other e);
  len = let l = length-set numbers at n in let e = is.len in omega arith;
  count = let e = is.count in omega arith;
}
  where
    within : at < length numbers
    within = let e = is.len in omega arith

    last : leaves_named new (n ∷ []) ≡ leaf ∷ []
    last = ap (λ o. option_to_list o ++ []) here

    before : leaves_named new (take at numbers) ≡ leaves_named now (take at numbers)
    before = named_same now new (take at numbers) (λ k d less.
        let less-at : k < at = (let l = length-take-le at numbers (omega arith) in omega (arith, less)) in
        stays_same now new stay _ (subst (λ m. IsSome (leaf_in now m)) (sym (get_or-take at numbers k d less-at)) (is.named k d less-at)))

    named_yet : (k d : ℕ) → k < at + 1 → (b : Bool) → (k == at) ≡ b → IsSome (leaf_in new (get_or (set numbers at n) k d))
    named_yet k d less true h =
        subst (λ m. IsSome (leaf_in new m)) (sym (ap (λ j. get_or (set numbers at n) j d) (eqb-true k at h) ∙ get_or-set_same numbers at n d within))
        (subst IsSome (sym here) refl)
    named_yet k d less false h =
        subst (λ m. IsSome (leaf_in new m)) (sym (get_or-set_other numbers at k n d (grind (arith, nat_tests))))
        (stays_some now new stay _ (is.named k d (grind (arith, nat_tests))))
