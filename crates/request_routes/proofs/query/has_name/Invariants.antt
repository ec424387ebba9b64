use Rattle.std.proofs.Common.{◌≡◌, map, drop}
use Rattle.request_routes.specs.Held.{pair_of}
use Rattle.request_routes.specs.Query.{has_name}
use Rattle.request_routes.proofs.query.has_name.Given as goal

-- a pair of the name is among all where it is among those left
abbrev pub invariant-loop-pair : goal.invariant-loop-pair
invariant-loop-pair l = has_name l.name (map pair_of (drop l.pair-index l.pairs)) ≡ has_name l.name (map pair_of l.pairs)
