use Rattle.std.proofs.Common.{◌∙◌, ◌<◌, length, ap, subst, arith}
use Rattle.queued_changes.specs.Machine.{run_out}
use Rattle.queued_changes.specs.Needs.{out_need}
use Rattle.queued_changes.proofs.Runs.{settled_out}
use Rattle.queued_changes.proofs.Needing.{batch_more}
use Rattle.named_indexes.specs.Changes.{changed}
use Rattle.named_indexes.specs.Needs.{need}
use Rattle.search_routes.specs.State.{State}
use Rattle.search_routes.proofs.machine.Machine.settle_all.Goals as goal

pub loop-preserved : goal.loop-preserved
loop-preserved g c =
    let settled = c.in_ok-settle.ensures.settled in
    let less = subst (λ (s : State). length s.queue < length c.loop.self.queue) settled (c.in_ok-settle.ensures.shorter c.if-branch.true) in
    record {
      out = ap (run_out changed) settled ∙ settled_out changed c.loop.self ∙ c.loop.invariant.out;
      counted = c.settle.ensures.counted ∙ c.loop.invariant.counted;
      fetched = omega (arith, c.settle.ensures.fetched, c.loop.invariant.fetched, batch_more changed need c.loop.self less, ap (out_need changed need) settled);
    }
