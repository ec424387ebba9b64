use Rattle.std.proofs.Common.{◌≡◌, ◌++◌, map, drop}
use Rattle.near_words.specs.ByCost.{costed_at}
use Rattle.near_words.proofs.costs.set_at.Given as goal

abbrev pub invariant-loop-each : goal.invariant-loop-each
invariant-loop-each l = map (λ id. id.0) l.ids.items ++ costed_at (drop l.each-index l.found) l.cost ≡ costed_at l.found l.cost
