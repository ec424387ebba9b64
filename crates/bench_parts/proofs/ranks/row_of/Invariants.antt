use Rattle.std.specs.List.{AllByRecursion}
use Rattle.bench_parts.specs.Ranks.{IsStep}
use Rattle.bench_parts.proofs.ranks.row_of.Given as goal

abbrev pub invariant-loop-from : goal.invariant-loop-from
invariant-loop-from l = AllByRecursion (IsStep l.words) l.edges.items
