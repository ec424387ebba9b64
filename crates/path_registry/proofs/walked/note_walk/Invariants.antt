use Rattle.std.proofs.Common.{◌≡◌, ◌+◌, ◌≤◌, ◌++◌, length}
use Rattle.std.specs.Vec.Iter.{into_iter_items}
use Rattle.path_registry.specs.Paths.{registered}
use Rattle.path_registry.specs.declared.registry.TheConstants.{MAX_PATHS}
use Rattle.path_registry.proofs.walked.note_walk.Given as goal

abbrev pub invariant-loop-path : goal.invariant-loop-path
invariant-loop-path l =
    (goal.iterator-loop-path).can_next l.path-iterator ×
    (goal.iterator-loop-path).is_finite l.path-iterator ×
    (length l.registry.paths + length l.added.paths + length l.fresh.paths ≤ MAX_PATHS) ×
    (registered (into_iter_items l.path-iterator) ((l.registry.paths ++ l.added.paths) ++ l.fresh.paths) ≡ registered (into_iter_items l.initial.path-iterator) ((l.registry.paths ++ l.added.paths) ++ l.initial.fresh.paths))
