use Rattle.std.proofs.Common.{◌∙◌, sym}
use Rattle.bench_parts.proofs.RankLemmas.{by-rank}
use Rattle.bench_parts.proofs.ranks.RanksResolve.docs_by_number.Goals as goal

pub returns-in_ok-rows-in-Some : goal.returns-in_ok-rows-in-Some
returns-in_ok-rows-in-Some c =
    by-rank c.args.self.now.sets.now c.args.condition.now c.in-Some.field-0 c.args.universe.now.ids c.in_ok-rows-in-Some.rows.items (sym c.rank_of.ensures ∙ c.in-Some.is) c.in_ok-rows-in-Some.ensures
