use Rattle.std.proofs.Common.{◌∙◌, ap, filter}
use Rattle.plain_rank.specs.Runs.{is_at}
use Rattle.plain_rank.proofs.RunLemmas.{parts-rise, those-at}
use Rattle.plain_rank.proofs.runs.those_at.Goals as goal

pub between-requires-clause-rise : goal.between-requires-clause-rise
between-requires-clause-rise c =
    parts-rise c.args.places.now c.args.path c.args.position c.count_before-start.result c.count_before-end.result
    c.count_before-start.ensures.within c.count_before-start.ensures.parted c.count_before-end.ensures.parted

pub returns : goal.returns
returns c =
    let places = c.args.places.now in
    let start = c.count_before-start.result in
    let end = c.count_before-end.result in
    let rise = parts-rise places c.args.path c.args.position start end c.count_before-start.ensures.within c.count_before-start.ensures.parted c.count_before-end.ensures.parted in
    ap (filter (is_at c.args.path c.args.position)) c.between.ensures
    ∙ those-at places c.args.path c.args.position start end rise c.count_before-end.ensures.within c.count_before-start.ensures.parted c.count_before-end.ensures.parted
