use Rattle.std.proofs.Common.{◌-◌, length, vec_len}
use Rattle.leaf_table.specs.Columns.{IsColumn}
use Rattle.leaf_table.proofs.columns.fill.Given as goal

abbrev pub invariant-loop-path : goal.invariant-loop-path
invariant-loop-path l = IsColumn l.path.0 l.column.items l.rows.rows

abbrev pub decreases-loop-path : goal.decreases-loop-path
decreases-loop-path l = length l.rows.rows - vec_len l.column
