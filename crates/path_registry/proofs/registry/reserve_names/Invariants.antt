use Rattle.std.proofs.Common.{drop}
use Rattle.path_registry.proofs.ReserveLemmas.{Reserved}
use Rattle.path_registry.proofs.registry.reserve_names.Given as goal

abbrev pub invariant-loop-name : goal.invariant-loop-name
invariant-loop-name l = Reserved l.names (drop l.name-index l.names) l.initial.places l.places
