use Rattle.std.proofs.Common.{take}
use Rattle.search_base.specs.SortKeys.{leaves_under}
use Rattle.leaf_table.specs.Columns.{Tells}
use Rattle.leaf_table.specs.Rows.{leaves_named}
use Rattle.leaf_table.proofs.columns.told.Given as goal

abbrev pub invariant-loop-number : goal.invariant-loop-number
invariant-loop-number l = Tells l.cell (leaves_under l.path.0 (leaves_named l.leaves (take l.number-index l.numbers)))
