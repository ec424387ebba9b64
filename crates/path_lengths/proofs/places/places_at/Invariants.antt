use Rattle.std.proofs.Common.{◌≡◌, ◌++◌, map, drop}
use Rattle.path_lengths.specs.Lasts.{lasts, spot_place}
use Rattle.path_lengths.proofs.places.places_at.Given as goal

abbrev pub invariant-loop-index : goal.invariant-loop-index
invariant-loop-index l = l.found.items ++ map spot_place (lasts (drop l.index l.spots)) ≡ map spot_place (lasts l.spots)
