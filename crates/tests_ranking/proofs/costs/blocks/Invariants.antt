use Rattle.std.specs.List.{AllByRecursion}
use Rattle.search_base.specs.Graphs.{IsPlaced}
use Rattle.tests_ranking.proofs.costs.blocks.Given as goal

abbrev pub invariant-loop-text : goal.invariant-loop-text
invariant-loop-text g l = record { placed : AllByRecursion (IsPlaced l.items) l.blocks.items }
