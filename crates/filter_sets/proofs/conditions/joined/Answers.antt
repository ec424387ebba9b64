use Rattle.filter_sets.specs.Conditions.{is_met}
use Rattle.filter_sets.proofs.SweepLemmas.{any_more, found_now}
use Rattle.filter_sets.proofs.ConditionLemmas.{one_passed, one_selected_answer}
use Rattle.filter_sets.proofs.conditions.joined.Goals as goal

pub loop-condition-preserved-then-implies_last : goal.loop-condition-preserved-then-implies_last
loop-condition-preserved-then-implies_last c =
    one_passed c.args.facets.now c.args.conditions.now c.loop-condition.condition-index c.condition-item.result c.loop-condition.last c.loop-condition.found
    c.args.all.now.ids c.loop-condition-test.true c.condition-item.is (c.implies_last.ensures c.if-implies_last.true) c.loop-condition.invariant

pub loop-condition-preserved : goal.loop-condition-preserved
loop-condition-preserved c = (
  any_more c.operations_are_on_members.ensures c.args.facets.now is_met c.args.conditions.now c.loop-condition.condition-index c.condition-item.result
      c.in_ok-docs.docs.ids c.loop-condition.found c.add.new.self c.args.all.now.ids c.loop-condition-test.true c.condition-item.is c.in_ok-docs.ensures
      c.in_ok-add.ensures.ids c.loop-condition.invariant.0,
  found_now c.operations_are_on_members.ensures c.args.facets.now (λ rows. is_met rows c.condition-item.result) c.in_ok-docs.docs.ids c.loop-condition.found
      c.add.new.self c.args.all.now.ids c.in_ok-docs.ensures c.in_ok-add.ensures.ids,
)

pub returns : goal.returns
returns c =
    one_selected_answer c.args.facets.now c.args.conditions.now c.loop-condition.condition-index c.loop-condition.found c.args.all.now.ids
    c.loop-condition-test.false c.loop-condition.invariant.0 c.finish.result c.finish.ensures
