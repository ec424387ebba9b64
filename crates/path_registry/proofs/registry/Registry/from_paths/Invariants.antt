use Rattle.std.proofs.Common.{◌≡◌, ◌<◌, ◌^◌, ◌++◌, length}
use Rattle.std.specs.Vec.Iter.{into_iter_items}
use Rattle.path_registry.proofs.registry.Registry.from_paths.Given as goal

abbrev pub invariant-loop-path : goal.invariant-loop-path
invariant-loop-path l =
    (goal.iterator-loop-path).can_next l.path-iterator ×
    (goal.iterator-loop-path).is_finite l.path-iterator ×
    (l.registry.paths ++ into_iter_items l.path-iterator ≡ into_iter_items l.initial.path-iterator) ×
    (length (into_iter_items l.initial.path-iterator) < 2 ^ 32)
