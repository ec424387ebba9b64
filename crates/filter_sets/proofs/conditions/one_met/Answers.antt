use Rattle.filter_sets.proofs.ConditionLemmas.{one_answer}
use Rattle.filter_sets.proofs.conditions.one_met.Goals as goal

pub returns : goal.returns
returns c = one_answer c.args.facets.now _ _ c.as_slice.result.now c.args.all.now.ids c.as_slice.ensures.value c.in_ok-sort_by.ensures.permutation c.joined.result c.joined.ensures
