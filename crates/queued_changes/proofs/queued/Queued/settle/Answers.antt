use Rattle.std.proofs.Common.{length, ap, arith}
use Rattle.queued_changes.proofs.Settling.{whole_slice, slice_is, made_within, settles, settles_shorter, settles_counts, settles_keeps}
use Rattle.queued_changes.proofs.queued.Queued.settle.Goals as goal

pub slice_bounds-apply-end : goal.slice_bounds-apply-end
slice_bounds-apply-end g c =
    whole_slice c.self.inside.queue.queued c.queued.result.now c.batch_len-count.result c.queued.ensures.tasks c.batch_len-count.ensures

pub apply-requires-clause-batch : goal.apply-requires-clause-batch
apply-requires-clause-batch g c =
    slice_is c.self.inside.queue.queued c.queued.result.now c.batch_len-count.result c.queued.ensures.tasks c.batch_len-count.ensures c.if-count-eq0.false

pub finish-requires : goal.finish-requires
finish-requires g c =
    let le = made_within g.W.Worker.changed c.self.inside.queue c.self.inside.worker c.queued.result.now c.batch_len-count.result c.in_ok-outcomes.outcomes.items
    c.queued.ensures.tasks c.batch_len-count.ensures c.in_ok-outcomes.ensures.outcomes in
    omega (arith, le, ap length c.deref.ensures.value)

pub invariant_of-self-2 : goal.invariant_of-self-2
invariant_of-self-2 g c =
    settles_keeps g.W.Worker.changed c.self.inside.queue c.self.inside.worker c.queued.result.now c.batch_len-count.result c.in_ok-outcomes.outcomes.items
    c.queued.ensures.tasks c.batch_len-count.ensures c.in_ok-outcomes.ensures.outcomes
    c.finish.new.self c.apply.new.self c.deref.result.now c.args.self.now c.self.view_is c.in_ok-outcomes.ensures.applied c.deref.ensures.value c.finish.ensures
    (λ t. g.W.Worker.accepts t.uid t.kind t.change) c.self.invariant

pub returns-clause-settled : goal.returns-clause-settled
returns-clause-settled g c =
    settles g.W.Worker.changed c.self.inside.queue c.self.inside.worker c.queued.result.now c.batch_len-count.result c.in_ok-outcomes.outcomes.items
    c.queued.ensures.tasks c.batch_len-count.ensures c.in_ok-outcomes.ensures.outcomes
    c.finish.new.self c.apply.new.self c.deref.result.now c.args.self.now c.self.view_is c.in_ok-outcomes.ensures.applied c.deref.ensures.value c.finish.ensures

pub returns-clause-shorter : goal.returns-clause-shorter
returns-clause-shorter g c = λ some.
    settles_shorter g.W.Worker.changed c.self.inside.queue c.self.inside.worker c.queued.result.now c.batch_len-count.result c.in_ok-outcomes.outcomes.items
    c.queued.ensures.tasks c.batch_len-count.ensures c.in_ok-outcomes.ensures.outcomes
    c.finish.new.self c.apply.new.self c.deref.result.now c.args.self.now c.self.view_is c.in_ok-outcomes.ensures.applied c.deref.ensures.value c.finish.ensures
    c.if-count-eq0.false

pub returns-clause-counted : goal.returns-clause-counted
returns-clause-counted g c =
    settles_counts g.W.Worker.changed c.self.inside.queue c.self.inside.worker c.queued.result.now c.batch_len-count.result c.in_ok-outcomes.outcomes.items
    c.queued.ensures.tasks c.batch_len-count.ensures c.in_ok-outcomes.ensures.outcomes
    c.finish.new.self c.apply.new.self c.deref.result.now c.args.self.now c.self.view_is c.in_ok-outcomes.ensures.applied c.deref.ensures.value c.finish.ensures
