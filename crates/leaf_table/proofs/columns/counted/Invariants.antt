use Rattle.std.proofs.Common.{◌+◌, ◌-◌, vec_len}
use Rattle.leaf_table.proofs.columns.counted.Given as goal

abbrev pub decreases-loop-counts : goal.decreases-loop-counts
decreases-loop-counts l = l.at + 1 - vec_len l.counts
