use Rattle.std.proofs.Common.{◌∙◌, sym, ap}
use Rattle.std.proofs.lemmas.Option.{slice_get_past}
use Rattle.doc_sets.specs.Sets.{intersection}
use Rattle.bench_parts.specs.Splits.{ids_of}
use Rattle.bench_parts.proofs.RankLemmas.{none-of}
use Rattle.bench_parts.proofs.ranks.of_rank.Goals as goal

pub returns-in-None : goal.returns-in-None
returns-in-None c =
    let universe = c.args.universe.now.ids in
    c.new.ensures ∙ none-of universe
    ∙ ap (λ found. intersection universe (ids_of found)) (sym (slice_get_past c.args.sets.now c.args.rank c.in-None.ensures.lookup.3))
