use Rattle.std.proofs.Common.{◌≡◌, take}
use Rattle.search_base.specs.SortKeys.{leaves_under}
use Rattle.leaf_table.specs.Rows.{leaves_named}
use Rattle.leaf_table.proofs.copies.copy_under.Given as goal

abbrev pub invariant-loop-number : goal.invariant-loop-number
invariant-loop-number l = l.copies.items ≡ leaves_under l.path.0 (leaves_named l.leaves (take l.number-index l.numbers))
