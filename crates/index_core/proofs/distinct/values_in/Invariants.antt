use Rattle.std.proofs.Common.{◌≡◌, map, take}
use Rattle.search_base.specs.declared.document.Leaf.{Leaf}
use Rattle.index_core.proofs.distinct.values_in.Given as goal

abbrev pub invariant-loop-leaf : goal.invariant-loop-leaf
invariant-loop-leaf l = l.values.items ≡ map (λ (leaf : Leaf). leaf.value) (take l.leaf-index l.leaves)
