use Rattle.std.proofs.Common.{◌≡◌, map, drop}
use Rattle.request_routes.specs.Held.{pair_of}
use Rattle.request_routes.specs.Query.{value_of}
use Rattle.request_routes.proofs.query.value_of.Given as goal

-- the value among all pairs is that among those left
abbrev pub invariant-loop-pair : goal.invariant-loop-pair
invariant-loop-pair l = value_of l.name (map pair_of (drop l.pair-index l.pairs)) ≡ value_of l.name (map pair_of l.pairs)
