use Rattle.tests_rules.proofs.PricedLemmas.{AreYet}
use Rattle.tests_rules.proofs.numbers.PricedOrderedRows.numbers.Given as goal

abbrev pub invariant-loop-id : goal.invariant-loop-id
invariant-loop-id l = AreYet l.self.up l.self.numbers.items l.universe.ids l.id-iterator l.pairs.items
