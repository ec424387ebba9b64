use Rattle.std.proofs.Common.{drop}
use Rattle.bench_parts.proofs.RankLemmas.{AreRows}
use Rattle.bench_parts.proofs.ranks.of_each_rank.Given as goal

abbrev pub invariant-loop-set : goal.invariant-loop-set
invariant-loop-set l = AreRows l.universe.ids l.sets l.rank l.rows.items (drop l.set-index l.sets)
