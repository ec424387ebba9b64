-- How the logic stores a filter's tree, so that it may be part of what a contract sees of a search.
use Rattle.std.specs.Prelude.{◌≡◌, ◌⊎◌, ℕ, zero, suc, ℤ, List, refl}
use Rattle.std.specs.Coded.{Coded, code_by, coded×, coded⊎, coded_ℕ, coded_ℤ, coded_list}
use Rattle.std.proofs.Common.{inl, inr, ap, ap₂}
use base.Stored.{Gv, gnil, gnum, gcons}
use Rattle.filter_tree.specs.Tree.{TestData, equal, above, at_least, below, at_most, between, one_of, exists, null, empty, Tree, all, both, either, negation, test, Trees, no_trees, tree}

-- a text, one of five numbers or pairs of them, texts, or one of three tests without a value
abbrev Parts : Type 0
Parts = List ℕ ⊎ (ℤ ⊎ (ℤ ⊎ (ℤ ⊎ (ℤ ⊎ ((ℤ × ℤ) ⊎ (List (List ℕ) ⊎ ℕ))))))

abbrev parts : TestData → Parts
parts (equal v) = inl v
parts (above n) = inr (inl n)
parts (at_least n) = inr (inr (inl n))
parts (below n) = inr (inr (inr (inl n)))
parts (at_most n) = inr (inr (inr (inr (inl n))))
parts (between m n) = inr (inr (inr (inr (inr (inl (m, n))))))
parts (one_of vs) = inr (inr (inr (inr (inr (inr (inl vs))))))
parts exists = inr (inr (inr (inr (inr (inr (inr 0))))))
parts null = inr (inr (inr (inr (inr (inr (inr 1))))))
parts empty = inr (inr (inr (inr (inr (inr (inr 2))))))

abbrev whole : Parts → TestData
whole (inl v) = equal v
whole (inr (inl n)) = above n
whole (inr (inr (inl n))) = at_least n
whole (inr (inr (inr (inl n)))) = below n
whole (inr (inr (inr (inr (inl n))))) = at_most n
whole (inr (inr (inr (inr (inr (inl p)))))) = between p.0 p.1
whole (inr (inr (inr (inr (inr (inr (inl vs))))))) = one_of vs
whole (inr (inr (inr (inr (inr (inr (inr zero))))))) = exists
whole (inr (inr (inr (inr (inr (inr (inr (suc zero)))))))) = null
whole (inr (inr (inr (inr (inr (inr (inr (suc (suc n))))))))) = empty

pub whole-parts : (t : TestData) → whole (parts t) ≡ t
whole-parts (equal v) = refl
whole-parts (above n) = refl
whole-parts (at_least n) = refl
whole-parts (below n) = refl
whole-parts (at_most n) = refl
whole-parts (between m n) = refl
whole-parts (one_of vs) = refl
whole-parts exists = refl
whole-parts null = refl
whole-parts empty = refl

abbrev text_code : Coded (List ℕ)
text_code = coded_list coded_ℕ

abbrev parts_code : Coded Parts
parts_code =
    coded⊎ text_code (coded⊎ coded_ℤ (coded⊎ coded_ℤ (coded⊎ coded_ℤ (coded⊎ coded_ℤ
    (coded⊎ (coded× coded_ℤ coded_ℤ) (coded⊎ (coded_list text_code) coded_ℕ))))))

abbrev test_code : Coded TestData
test_code = code_by Parts parts_code parts whole whole-parts

abbrev left : Gv → Gv
left gnil = gnil
left (gnum n) = gnil
left (gcons a b) = a

abbrev right : Gv → Gv
right gnil = gnil
right (gnum n) = gnil
right (gcons a b) = b

abbrev mutual
  pub stored : Tree → Gv
  stored all = gcons (gnum 0) gnil
  stored (both ts) = gcons (gnum 1) (trees_stored ts)
  stored (either ts) = gcons (gnum 2) (trees_stored ts)
  stored (negation t) = gcons (gnum 3) (stored t)
  stored (test a x) = gcons (gnum 4) (gcons (text_code.code a) (test_code.code x))

  pub trees_stored : Trees → Gv
  trees_stored no_trees = gnil
  trees_stored (tree t ts) = gcons (stored t) (trees_stored ts)

mutual
  pub stored_apart : (x y : Tree) → stored x ≡ stored y → x ≡ y
  stored_apart all all p = refl
  stored_apart all (both us) p = cc
  stored_apart all (either us) p = cc
  stored_apart all (negation u) p = cc
  stored_apart all (test b y) p = cc
  stored_apart (both ts) all p = cc
  stored_apart (both ts) (both us) p = ap both (trees_apart ts us (ap right p))
  stored_apart (both ts) (either us) p = cc
  stored_apart (both ts) (negation u) p = cc
  stored_apart (both ts) (test b y) p = cc
  stored_apart (either ts) all p = cc
  stored_apart (either ts) (both us) p = cc
  stored_apart (either ts) (either us) p = ap either (trees_apart ts us (ap right p))
  stored_apart (either ts) (negation u) p = cc
  stored_apart (either ts) (test b y) p = cc
  stored_apart (negation t) all p = cc
  stored_apart (negation t) (both us) p = cc
  stored_apart (negation t) (either us) p = cc
  stored_apart (negation t) (negation u) p = ap negation (stored_apart t u (ap right p))
  stored_apart (negation t) (test b y) p = cc
  stored_apart (test a x) all p = cc
  stored_apart (test a x) (both us) p = cc
  stored_apart (test a x) (either us) p = cc
  stored_apart (test a x) (negation u) p = cc
  stored_apart (test a x) (test b y) p =
      ap₂ test (text_code.inj a b (ap (λ g. left (right g)) p)) (test_code.inj x y (ap (λ g. right (right g)) p))

  trees_apart : (x y : Trees) → trees_stored x ≡ trees_stored y → x ≡ y
  trees_apart no_trees no_trees p = refl
  trees_apart no_trees (tree u us) p = cc
  trees_apart (tree t ts) no_trees p = cc
  trees_apart (tree t ts) (tree u us) p = ap₂ tree (stored_apart t u (ap left p)) (trees_apart ts us (ap right p))

abbrev pub tree_code : Coded Tree
tree_code = record { code = stored; inj = stored_apart }
