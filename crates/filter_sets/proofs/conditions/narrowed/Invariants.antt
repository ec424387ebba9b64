use Rattle.std.proofs.Common.{drop}
use Rattle.std.specs.Option.{IfSome}
use Rattle.filter_sets.specs.Conditions.{is_met}
use Rattle.filter_sets.proofs.SweepLemmas.{NarrowsAll, AllPass}
use Rattle.filter_sets.proofs.conditions.narrowed.Given as goal

abbrev pub invariant-loop-condition : goal.invariant-loop-condition
invariant-loop-condition l = NarrowsAll l.facets is_met (drop l.condition-index l.conditions) l.docs.ids l.conditions l.all.ids
    × IfSome l.last (λ condition. AllPass l.facets (λ rows. is_met rows condition) l.docs.ids)
