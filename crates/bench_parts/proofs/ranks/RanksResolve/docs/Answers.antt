use Rattle.std.proofs.Common.{◌∙◌, sym, ap, filter}
use Rattle.bench_parts.specs.Ranks.{is_at}
use Rattle.bench_parts.proofs.RankLemmas.{all-at}
use Rattle.bench_parts.proofs.ranks.RanksResolve.docs.Goals as goal

pub returns-in_ok-all-in-None-clause-docs : goal.returns-in_ok-all-in-None-clause-docs
returns-in_ok-all-in-None-clause-docs c =
    let sets = c.args.self.now.sets.now in
    let universe = c.args.universe.now.ids in
    c.in_ok-all-in-None.ensures.cases ∙ all-at sets universe
    ∙ ap (λ rank. filter (is_at sets rank) universe) (sym c.in-None.is ∙ c.rank_of.ensures)
