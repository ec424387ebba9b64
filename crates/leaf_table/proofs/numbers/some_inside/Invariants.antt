use Rattle.std.proofs.Common.{◌≡◌, take, false}
use Rattle.std.specs.List.{list_any}
use Rattle.search_base.specs.SortKeys.{leaves_under}
use Rattle.leaf_table.specs.Rows.{leaves_named}
use Rattle.leaf_table.proofs.NumberLemmas.{is_in}
use Rattle.leaf_table.proofs.numbers.some_inside.Given as goal

abbrev pub invariant-loop-number : goal.invariant-loop-number
invariant-loop-number l =
    list_any (is_in l.range.low l.range.high) (leaves_under l.range.path.0 (leaves_named l.leaves (take l.number-index l.numbers))) ≡ false
