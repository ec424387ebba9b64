use Rattle.filter_sets.specs.Conditions.{is_met}
use Rattle.filter_sets.proofs.SweepLemmas.{all_narrower, pass_now, all_narrowed}
use Rattle.filter_sets.proofs.ConditionLemmas.{each_passed}
use Rattle.filter_sets.proofs.conditions.narrowed.Goals as goal

pub loop-condition-preserved-then-is_implied_by : goal.loop-condition-preserved-then-is_implied_by
loop-condition-preserved-then-is_implied_by c =
    each_passed c.args.facets.now c.args.conditions.now c.loop-condition.condition-index c.condition-item.result c.loop-condition.last c.loop-condition.docs.ids
    c.args.all.now.ids c.loop-condition-test.true c.condition-item.is (c.is_implied_by.ensures c.if-is_implied_by.true) c.loop-condition.invariant

pub loop-condition-preserved : goal.loop-condition-preserved
loop-condition-preserved c = (
  all_narrower c.args.facets.now is_met c.args.conditions.now c.loop-condition.condition-index c.condition-item.result c.loop-condition.docs.ids
      c.in_ok-fewer.fewer.ids c.args.all.now.ids c.loop-condition-test.true c.condition-item.is c.in_ok-fewer.ensures c.loop-condition.invariant.0,
  pass_now c.args.facets.now (λ rows. is_met rows c.condition-item.result) c.loop-condition.docs.ids c.in_ok-fewer.fewer.ids c.in_ok-fewer.ensures,
)

pub returns : goal.returns
returns c =
    all_narrowed c.args.facets.now is_met c.args.conditions.now c.loop-condition.condition-index c.loop-condition.docs.ids c.args.all.now.ids
    c.loop-condition-test.false c.loop-condition.invariant.0
