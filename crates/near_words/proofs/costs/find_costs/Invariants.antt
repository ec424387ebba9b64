use Rattle.doc_sets.specs.Sets.{IsIncreasing}
use Rattle.near_words.specs.ByCost.{cost_in}
use Rattle.near_words.proofs.CostLemmas.{IsFound, AreRead}
use Rattle.near_words.proofs.costs.find_costs.Given as goal

abbrev pub invariant-loop-id : goal.invariant-loop-id
invariant-loop-id l = record {
  found : IsFound (cost_in l.left.entries l.right.entries) l.universe.ids l.id-iterator l.found.items;
  lefts : AreRead l.left.entries l.id-iterator l.lefts;
  rights : AreRead l.right.entries l.id-iterator l.rights;
  order : IsIncreasing l.id-iterator;
}
