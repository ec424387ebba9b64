use Rattle.std.proofs.Common.{◌-◌, length}
use Rattle.leaf_table.proofs.pool.first_free.Given as goal

abbrev pub decreases-loop-number : goal.decreases-loop-number
decreases-loop-number l = length l.leaves - l.number
