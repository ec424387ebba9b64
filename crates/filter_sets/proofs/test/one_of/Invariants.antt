use Rattle.std.proofs.Common.{drop}
use Rattle.filter_sets.proofs.SweepLemmas.{AddsAny}
use Rattle.filter_sets.proofs.TestLemmas.{equals, IsAskedOf}
use Rattle.filter_sets.proofs.test.one_of.Given as goal

abbrev pub invariant-loop-text : goal.invariant-loop-text
invariant-loop-text l = AddsAny l.facets (equals l.path.0) (drop l.text-index l.texts) l.found l.texts l.all.ids
    × IsAskedOf l.facets l.path.0 l.asked l.found l.all.ids
