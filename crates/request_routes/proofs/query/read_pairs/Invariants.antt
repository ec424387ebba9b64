use Rattle.std.proofs.Common.{◌≡◌, ◌++◌, map}
use Rattle.form_urlencoded.specs.Parse.{raw_pairs_left}
use Rattle.request_routes.specs.Held.{pair_of}
use Rattle.request_routes.specs.Query.{decoded}
use Rattle.request_routes.proofs.query.read_pairs.Given as goal

-- the pairs so far, and those that are left, are all pairs
abbrev pub invariant-loop-name : goal.invariant-loop-name
invariant-loop-name l =
    map pair_of l.pairs.items ++ map (λ pair. (decoded pair.0, decoded pair.1)) (raw_pairs_left l.name-iterator)
    ≡ map (λ pair. (decoded pair.0, decoded pair.1)) (raw_pairs_left l.initial.name-iterator)
