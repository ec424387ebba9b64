-- What a filter is: a tree of tests.
use Rattle.std.specs.Prelude.{ℕ, ℤ, List, [], ◌∷◌}

-- what a value is tested for
pub data TestData : Type 0 where
  equal : List ℕ → TestData
  above : ℤ → TestData
  at_least : ℤ → TestData
  below : ℤ → TestData
  at_most : ℤ → TestData
  between : ℤ → ℤ → TestData
  one_of : List (List ℕ) → TestData
  exists : TestData
  null : TestData
  empty : TestData

mutual
  pub data Tree : Type 0 where
    all : Tree
    both : Trees → Tree
    either : Trees → Tree
    negation : Tree → Tree
    test : List ℕ → TestData → Tree

  pub data Trees : Type 0 where
    no_trees : Trees
    tree : Tree → Trees → Trees

abbrev pub trees_of : List Tree → Trees
trees_of [] = no_trees
trees_of (t ∷ ts) = tree t (trees_of ts)

-- one member alone is that member
abbrev pub and_of : List Tree → Tree
and_of [] = both no_trees
and_of (t ∷ []) = t
and_of (t ∷ u ∷ ts) = both (trees_of (t ∷ u ∷ ts))

abbrev pub or_of : List Tree → Tree
or_of [] = either no_trees
or_of (t ∷ []) = t
or_of (t ∷ u ∷ ts) = either (trees_of (t ∷ u ∷ ts))
