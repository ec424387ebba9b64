use Rattle.std.proofs.Common.{[]}
use Rattle.std.proofs.lemmas.Result.{err_from_is_err_and}
use Rattle.index_image.specs.Image.{list_at, outcome_at}
use Rattle.index_image.proofs.Lists.{list_step, list_fails, list_done}
use Rattle.index_image.proofs.outcomes.some_outcomes.Goals as goal

pub returns-in_err-outcome : goal.returns-in_err-outcome
returns-in_err-outcome c =
    let p = err_from_is_err_and c.from_residual.result c.from_residual.ensures.1 in
    rw (p.1, p.2)
    (list_fails (λ before. outcome_at) c.in_err-outcome.field-0.0 c.loop.outcomes.items c.args.count c.loop.counter c.loop.rest.now (list_at (λ before. outcome_at) c.args.count [] c.args.bytes.now) c.loop-test.true c.in_err-outcome.ensures c.loop.invariant)

pub loop-preserved : goal.loop-preserved
loop-preserved c =
    rw c.in_ok-push.ensures.items
    (list_step (λ before. outcome_at) c.loop.outcomes.items c.args.count c.loop.counter c.loop.rest.now c.in_ok-outcome.outcome c.in_ok-outcome.after.now (list_at (λ before. outcome_at) c.args.count [] c.args.bytes.now) c.loop-test.true c.in_ok-outcome.ensures c.loop.invariant)

pub returns : goal.returns
returns c = list_done (λ before. outcome_at) c.loop.outcomes.items c.args.count c.loop.counter c.loop.rest.now (list_at (λ before. outcome_at) c.args.count [] c.args.bytes.now) c.loop-test.false c.loop.invariant
