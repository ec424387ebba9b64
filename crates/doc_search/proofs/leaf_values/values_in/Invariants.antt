use Rattle.std.proofs.Common.{◌≡◌, ◌++◌, map}
use Rattle.std.specs.Vec.Iter.{into_iter_items}
use Rattle.search_base.specs.declared.document.Leaf.{Leaf}
use Rattle.doc_search.proofs.leaf_values.values_in.Given as goal

abbrev pub invariant-loop-leaf : goal.invariant-loop-leaf
invariant-loop-leaf l =
    (goal.iterator-loop-leaf).can_next l.leaf-iterator ×
    (goal.iterator-loop-leaf).is_finite l.leaf-iterator ×
    (l.values.items ++ map (λ (leaf : Leaf). leaf.value) (into_iter_items l.leaf-iterator) ≡ map (λ (leaf : Leaf). leaf.value) (into_iter_items l.initial.leaf-iterator))
