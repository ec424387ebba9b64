use Rattle.std.proofs.Common.{◌<◌, length, ap, ◌∙◌, arith}
use Rattle.task_queue.specs.Queue.{row_of}
use Rattle.named_indexes.specs.Inside.{fault_row}
use Rattle.named_indexes.proofs.Rows.{row_more}
use Rattle.named_indexes.proofs.changes.outcomes_of.Goals as goal

pub loop-fault-preserved : goal.loop-fault-preserved
loop-fault-preserved c =
    let less : c.loop-fault.fault-index < length c.args.faults.now = omega arith in
    record {
      rows =
          row_more row_of fault_row c.loop-fault.outcomes.items c.push_reserved.new.self.items c.outcome_of.result c.args.faults.now c.loop-fault.fault-index c.fault-item.result less
          c.push_reserved.ensures.items (c.outcome_of.ensures ∙ ap fault_row (c.as_ref.ensures.value ∙ c.fault-item.is)) c.loop-fault.invariant.rows;
      many = omega (arith, c.push_reserved.ensures.len, c.loop-fault.invariant.many);
      room = omega (arith, c.push_reserved.ensures.capacity, c.loop-fault.invariant.room);
    }
