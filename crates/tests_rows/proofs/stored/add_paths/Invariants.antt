use Rattle.std.proofs.Common.{◌≡◌, ◌++◌, take}
use Rattle.tests_rows.proofs.stored.add_paths.Given as goal

abbrev pub invariant-loop-path : goal.invariant-loop-path
invariant-loop-path g l = l.all.items ≡ l.initial.all.items ++ take l.path-index l.paths
