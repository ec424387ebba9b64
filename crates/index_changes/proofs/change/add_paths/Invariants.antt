use Rattle.std.proofs.Common.{◌≡◌, ◌++◌, take}
use Rattle.index_changes.proofs.change.add_paths.Given as goal

abbrev pub invariant-loop-path : goal.invariant-loop-path
invariant-loop-path l = l.all.items ≡ l.initial.all.items ++ take l.path-index l.paths
