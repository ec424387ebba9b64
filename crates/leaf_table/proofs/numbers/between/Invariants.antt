use Rattle.leaf_table.specs.Columns.{leaves_in}
use Rattle.leaf_table.specs.Numbers.{has_between}
use Rattle.leaf_table.proofs.NumberLemmas.{IsSifted}
use Rattle.leaf_table.proofs.numbers.between.Given as goal

abbrev pub invariant-loop-id : goal.invariant-loop-id
invariant-loop-id l =
    IsSifted (λ d. has_between l.range.path.0 l.range.low l.range.high (leaves_in d l.rows.rows)) l.universe.ids l.id-iterator l.found
