use Rattle.facet_index.proofs.StepLemmas.{next_is, none_is}
use Rattle.facet_index.proofs.sorts.next_word.Goals as goal

pub returns-clause-some : goal.returns-clause-some
returns-clause-some c =
    next_is c.args.up c.args.behind c.args.path.0 c.args.start.now c.args.universe.now.ids c.args.keys.now c.words_on-rows.result c.first_had.result
    c.words_on-rows.ensures.lists c.words_on-rows.ensures.order c.first_had.ensures

pub returns-clause-none : goal.returns-clause-none
returns-clause-none c =
    none_is c.args.up c.args.behind c.args.path.0 c.args.start.now c.args.universe.now.ids c.args.keys.now c.words_on-rows.result c.first_had.result
    c.words_on-rows.ensures.lists c.first_had.ensures
