use Rattle.leaf_table.proofs.NumberLemmas.{AreNumbersYet}
use Rattle.leaf_table.proofs.numbers.numbers.Given as goal

abbrev pub invariant-loop-id : goal.invariant-loop-id
invariant-loop-id l = AreNumbersYet l.fn.path.0 l.rows l.universe.ids l.id-iterator l.pairs.items
