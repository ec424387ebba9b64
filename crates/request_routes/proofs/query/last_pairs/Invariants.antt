use Rattle.std.proofs.Common.{◌≡◌, ◌++◌, map, drop}
use Rattle.request_routes.specs.Held.{pair_of}
use Rattle.request_routes.specs.Query.{last_pairs}
use Rattle.request_routes.proofs.query.last_pairs.Given as goal

-- the pairs that are kept, and those to keep of what is left, are those to keep of all
abbrev pub invariant-loop-place : goal.invariant-loop-place
invariant-loop-place l = map pair_of l.kept.items ++ last_pairs (map pair_of (drop l.place l.pairs)) ≡ last_pairs (map pair_of l.pairs)
