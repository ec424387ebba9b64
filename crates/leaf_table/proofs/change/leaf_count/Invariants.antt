use Rattle.std.proofs.Common.{◌≡◌, take}
use Rattle.leaf_table.specs.Changes.{leaf_count}
use Rattle.leaf_table.proofs.change.leaf_count.Given as goal

abbrev pub invariant-loop-row : goal.invariant-loop-row
invariant-loop-row l = leaf_count (take l.row-index l.come) ≡ l.count
