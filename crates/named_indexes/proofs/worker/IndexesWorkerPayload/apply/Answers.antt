use Rattle.std.proofs.Common.{map, arith}
use Rattle.document_changes.specs.Changes.{kind_view}
use Rattle.task_queue.specs.Queue.{row_of}
use Rattle.named_indexes.proofs.Worked.{behind, split_first, worked_applied, worked_rows, worked_uids, worked_batch, worked_keys, worked_need}
use Rattle.named_indexes.proofs.worker.IndexesWorkerPayload.apply.Goals as goal

pub make-requires-clause-batch : goal.make-requires-clause-batch
make-requires-clause-batch g c =
    worked_batch c.args.batch.now c.first-item.result (behind c.args.batch.now) (split_first c.args.batch.now c.first-item.result c.in-len1-up.len_at_least c.first-item.is) (map kind_view c.in_ok-changes-in-len1-up.changes.items) c.in_ok-changes-in-len1-up.ensures
    c.self.inside.entries.entries c.self.inside.entries.entries c.requires.batch c.requires.accepted

pub make-requires-clause-keys : goal.make-requires-clause-keys
make-requires-clause-keys g c =
    worked_keys c.args.batch.now c.first-item.result (behind c.args.batch.now) (split_first c.args.batch.now c.first-item.result c.in-len1-up.len_at_least c.first-item.is) (map kind_view c.in_ok-changes-in-len1-up.changes.items) c.in_ok-changes-in-len1-up.ensures
    c.self.inside.entries.entries c.self.inside.entries.entries c.requires.batch c.requires.accepted

pub invariant_of-self : goal.invariant_of-self
invariant_of-self g c =
    worked_uids c.args.batch.now c.first-item.result (behind c.args.batch.now) (split_first c.args.batch.now c.first-item.result c.in-len1-up.len_at_least c.first-item.is) (map kind_view c.in_ok-changes-in-len1-up.changes.items) c.in_ok-changes-in-len1-up.ensures
    c.self.inside.entries.entries c.make.new.entries.entries c.requires.batch
    c.make.result c.make.ensures.applied c.make.ensures.stays c.self.invariant c.requires.accepted

pub returns-in_ok-changes-in-len1-up-clause-applied :
    goal.returns-in_ok-changes-in-len1-up-clause-applied
returns-in_ok-changes-in-len1-up-clause-applied g c =
    rw (← c.self.view_is)
    (worked_applied c.args.batch.now c.first-item.result (behind c.args.batch.now) (split_first c.args.batch.now c.first-item.result c.in-len1-up.len_at_least c.first-item.is) (map kind_view c.in_ok-changes-in-len1-up.changes.items) c.in_ok-changes-in-len1-up.ensures
    c.self.inside.entries.entries c.make.new.entries.entries c.requires.batch
    c.make.result c.make.ensures.applied)

pub returns-in_ok-changes-in-len1-up-clause-outcomes :
    goal.returns-in_ok-changes-in-len1-up-clause-outcomes
returns-in_ok-changes-in-len1-up-clause-outcomes g c =
    rw (← c.self.view_is)
    (worked_rows c.args.batch.now c.first-item.result (behind c.args.batch.now) (split_first c.args.batch.now c.first-item.result c.in-len1-up.len_at_least c.first-item.is) (map kind_view c.in_ok-changes-in-len1-up.changes.items) c.in_ok-changes-in-len1-up.ensures
    c.self.inside.entries.entries c.make.new.entries.entries c.requires.batch
    (λ outcomes. map row_of outcomes.items) c.make.result c.make.ensures.rows)

pub returns-in_ok-changes-in-len1-up-clause-fetched :
    goal.returns-in_ok-changes-in-len1-up-clause-fetched
returns-in_ok-changes-in-len1-up-clause-fetched g c =
    let need = worked_need c.args.batch.now c.first-item.result (behind c.args.batch.now) (split_first c.args.batch.now c.first-item.result c.in-len1-up.len_at_least c.first-item.is) (map kind_view c.in_ok-changes-in-len1-up.changes.items) c.in_ok-changes-in-len1-up.ensures
    c.self.inside.entries.entries c.self.inside.entries.entries c.requires.batch in
    rw (← c.self.view_is) (omega (arith, need, c.make.ensures.fetched))
