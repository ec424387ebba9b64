use Rattle.std.proofs.Common.{◌∙◌, sym}
use Rattle.filter_sets.proofs.SweepLemmas.{any_more, any_passed, found_now}
use Rattle.filter_sets.proofs.TestLemmas.{equals, asked_more, still_asked, equal_selected_answer}
use Rattle.filter_sets.proofs.test.one_of.Goals as goal

pub loop-text-preserved : goal.loop-text-preserved
loop-text-preserved c =
    let now = found_now c.operations_are_on_members.ensures c.args.facets.now (λ rows. equals c.args.path.0 rows c.text-item.result) c.in_ok-docs.docs.ids
    c.loop-text.found c.add.new.self c.args.all.now.ids c.in_ok-docs.ensures c.in_ok-add.ensures.ids in (
      any_more c.operations_are_on_members.ensures c.args.facets.now (equals c.args.path.0) c.args.texts.now c.loop-text.text-index c.text-item.result
          c.in_ok-docs.docs.ids c.loop-text.found c.add.new.self c.args.all.now.ids c.loop-text-test.true c.text-item.is c.in_ok-docs.ensures
          c.in_ok-add.ensures.ids c.loop-text.invariant.0,
      asked_more c.args.facets.now c.args.path.0 c.loop-text.asked c.insert.new.self c.text-item.result c.in_ok-clone.field-0
          c.add.new.self c.args.all.now.ids c.in_ok-clone.ensures.cases c.in_ok-insert.ensures.updates.0 now
          (still_asked c.operations_are_on_members.ensures c.args.facets.now c.args.path.0 c.loop-text.asked c.in_ok-docs.docs.ids c.loop-text.found
          c.add.new.self c.args.all.now.ids c.in_ok-add.ensures.ids c.loop-text.invariant.1),
    )

pub loop-text-preserved-then-contains : goal.loop-text-preserved-then-contains
loop-text-preserved-then-contains c = (
  any_passed c.args.facets.now (equals c.args.path.0) c.args.texts.now c.loop-text.text-index c.text-item.result c.loop-text.found c.args.all.now.ids
      c.loop-text-test.true c.text-item.is (c.loop-text.invariant.1 c.text-item.result (sym c.contains.ensures ∙ c.if-contains.true)) c.loop-text.invariant.0,
  c.loop-text.invariant.1,
)

pub returns : goal.returns
returns c =
    equal_selected_answer c.args.facets.now c.args.path.0 c.args.texts.now c.loop-text.text-index c.loop-text.found c.args.all.now.ids c.loop-text-test.false
    c.loop-text.invariant.0 c.finish.result c.finish.ensures
