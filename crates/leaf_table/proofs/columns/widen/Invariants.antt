use Rattle.leaf_table.specs.Columns.{AreColumns}
use Rattle.leaf_table.proofs.columns.widen.Given as goal

abbrev pub invariant-loop-row : goal.invariant-loop-row
invariant-loop-row l = AreColumns l.columns.items l.rows.rows

abbrev pub invariant-loop-leaf : goal.invariant-loop-leaf
invariant-loop-leaf l = AreColumns l.columns.items l.rows.rows
