use Rattle.std.proofs.Common.{◌≡◌, take}
use Rattle.leaf_table.proofs.change.copy_of.Given as goal

abbrev pub invariant-loop-leaf : goal.invariant-loop-leaf
invariant-loop-leaf l = l.copy.items ≡ take l.leaf-index l.leaves
