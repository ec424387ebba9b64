-- The attributes that a filter tests.
use Rattle.std.specs.Prelude.{ℕ, List, [], ◌∷◌, ◌++◌}
use Rattle.filter_tree.specs.Tree.{Tree, Trees, all, both, either, negation, test, no_trees, tree}

-- the attribute of each test, in the order of the filter's text
abbrev mutual
  pub attributes : Tree → List (List ℕ)
  attributes all = []
  attributes (both ts) = attributes_among ts
  attributes (either ts) = attributes_among ts
  attributes (negation t) = attributes t
  attributes (test attribute x) = attribute ∷ []

  pub attributes_among : Trees → List (List ℕ)
  attributes_among no_trees = []
  attributes_among (tree t ts) = attributes t ++ attributes_among ts
