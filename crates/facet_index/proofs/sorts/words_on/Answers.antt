use Rattle.facet_index.proofs.StepLemmas.{rows_down}
use Rattle.facet_index.proofs.sorts.words_on.Goals as goal

pub returns-else-up-clause-lists : goal.returns-else-up-clause-lists
returns-else-up-clause-lists c =
    rows_down c.args.up c.args.behind c.args.start.now _ c.args.keys.now c.words_up_to.result c.if-up.false c.bound_at-bound.ensures c.words_up_to.ensures.lists
