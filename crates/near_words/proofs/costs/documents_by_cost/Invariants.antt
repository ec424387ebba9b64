use Rattle.std.proofs.Common.{◌≡◌, map}
use Rattle.std.specs.List.{range_with_len}
use Rattle.near_words.specs.ByCost.{cost_in, ids_at}
use Rattle.near_words.proofs.costs.documents_by_cost.Given as goal

abbrev pub invariant-loop-cost : goal.invariant-loop-cost
invariant-loop-cost l = map (λ set. set.ids) l.sets.items
    ≡ map (ids_at (cost_in l.left.entries l.right.entries) l.universe.ids) (range_with_len 0 l.cost)
