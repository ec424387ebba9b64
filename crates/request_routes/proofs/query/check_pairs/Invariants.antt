use Rattle.std.proofs.Common.{◌≡◌, map, drop}
use Rattle.request_routes.specs.Held.{pair_of}
use Rattle.request_routes.specs.Query.{first_unknown}
use Rattle.request_routes.proofs.query.check_pairs.Given as goal

-- the first that is not taken is among those left
abbrev pub invariant-loop-pair : goal.invariant-loop-pair
invariant-loop-pair l = first_unknown l.route (map pair_of (drop l.pair-index l.pairs)) ≡ first_unknown l.route (map pair_of l.pairs)
