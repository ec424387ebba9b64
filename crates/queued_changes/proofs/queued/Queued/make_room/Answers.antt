use Rattle.std.proofs.Common.{◌∙◌, sym, ap, length, arith}
use Rattle.std.specs.Prelude.{nat_le}
use Rattle.task_queue.specs.Queue.{most_queued}
use Rattle.queued_changes.proofs.Settling.{has_room}
use Rattle.queued_changes.proofs.queued.Queued.make_room.Goals as goal

pub returns-in_ok-settle-clause-free : goal.returns-in_ok-settle-clause-free
returns-in_ok-settle-clause-free g c =
    has_room c.args.self.now.queue c.settle.new.self.queue c.in_ok-settle.field-0
    (ap (λ s. nat_le most_queued (length s.queue)) (sym c.self.view_is) ∙ sym c.full.ensures.full ∙ c.if-full.true)
    (omega (arith, c.full.ensures.few, ap (λ s. length s.queue) c.self.view_is))
    c.in_ok-settle.ensures.some c.in_ok-settle.ensures.shorter
