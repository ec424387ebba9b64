use Rattle.std.proofs.Common.{drop}
use Rattle.std.specs.Option.{IfSome}
use Rattle.filter_sets.specs.Conditions.{is_met}
use Rattle.filter_sets.proofs.SweepLemmas.{AddsAny, AreFound}
use Rattle.filter_sets.proofs.conditions.joined.Given as goal

abbrev pub invariant-loop-condition : goal.invariant-loop-condition
invariant-loop-condition l = AddsAny l.facets is_met (drop l.condition-index l.conditions) l.found l.conditions l.all.ids
    × IfSome l.last (λ condition. AreFound l.facets (λ rows. is_met rows condition) l.found l.all.ids)
