-- What the first change of a batch does each of them does.
use Rattle.std.proofs.Common.{◌≡◌, ◌≤◌, List, [], ◌∷◌, length, map, Some, sym, subst, arith}
use Rattle.std.specs.Prelude.{slice_get}
use Rattle.std.specs.List.{AllByRecursion}
use Rattle.document_changes.specs.Changes.{kind_view}
use Rattle.document_changes.specs.declared.change.ChangeKind.{ChangeKind}
use Rattle.index_changes.specs.Batches.{IsOneBatch}
use Rattle.named_indexes.specs.Inside.{Names, Fills, Empties}
use Rattle.named_indexes.proofs.Alike.{all_fill, all_empty, all_name}

-- the first of them
is_first : (x : ChangeKind) (xs : List ChangeKind) (first : ChangeKind) → Some first ≡ slice_get (x ∷ xs) 0 → first ≡ x
is_first x xs first at = cc

-- `xs` is the batch, and `first` its first change
module _ (xs : List ChangeKind) (first : ChangeKind) (at : Some first ≡ slice_get xs 0) (batch : IsOneBatch (map kind_view xs)) where
  pub each_fills : Fills (kind_view first) → AllByRecursion Fills (map kind_view xs)
  each_fills fills = by xs at batch
    where
      by : (ys : List ChangeKind) → Some first ≡ slice_get ys 0 → IsOneBatch (map kind_view ys) → AllByRecursion Fills (map kind_view ys)
      by [] at batch = tt
      by (y ∷ ys) at batch = all_fill (kind_view y) (map kind_view ys) (subst (λ (z : ChangeKind). Fills (kind_view z)) (is_first y ys first at) fills) batch

  pub each_empties : Empties (kind_view first) → AllByRecursion Empties (map kind_view xs)
  each_empties empties = by xs at batch
    where
      by : (ys : List ChangeKind) → Some first ≡ slice_get ys 0 → IsOneBatch (map kind_view ys) → AllByRecursion Empties (map kind_view ys)
      by [] at batch = tt
      by (y ∷ ys) at batch = all_empty (kind_view y) (map kind_view ys) (subst (λ (z : ChangeKind). Empties (kind_view z)) (is_first y ys first at) empties) batch

  none_behind : (ys : List ChangeKind) → map kind_view ys ≡ [] → length ys ≤ 0
  none_behind [] is = omega arith
  none_behind (y ∷ ys) is = absurd (cc)

  -- one that makes an index or takes it away stands alone
  pub names_alone : Names (kind_view first) → length xs ≤ 1
  names_alone names = by xs at batch
    where
      by : (ys : List ChangeKind) → Some first ≡ slice_get ys 0 → IsOneBatch (map kind_view ys) → length ys ≤ 1
      by [] at batch = omega arith
      by (y ∷ ys) at batch =
          let none = none_behind ys (all_name (kind_view y) (map kind_view ys) (subst (λ (z : ChangeKind). Names (kind_view z)) (is_first y ys first at) names) batch) in
          omega (arith, none)

  pub each_names : Names (kind_view first) → AllByRecursion Names (map kind_view xs)
  each_names names = by xs at batch
    where
      by : (ys : List ChangeKind) → Some first ≡ slice_get ys 0 → IsOneBatch (map kind_view ys) → AllByRecursion Names (map kind_view ys)
      by [] at batch = tt
      by (y ∷ ys) at batch =
          let is : Names (kind_view y) = subst (λ (z : ChangeKind). Names (kind_view z)) (is_first y ys first at) names in
          (is, subst (AllByRecursion Names) (sym (all_name (kind_view y) (map kind_view ys) is batch)) tt)
