use Rattle.filter_sets.proofs.ConditionLemmas.{each_answer}
use Rattle.filter_sets.proofs.conditions.each_met.Goals as goal

pub returns : goal.returns
returns c = each_answer c.args.facets.now _ _ c.as_slice.result.now c.args.all.now.ids c.as_slice.ensures.value c.in_ok-sort_by.ensures.permutation c.narrowed.result c.narrowed.ensures
