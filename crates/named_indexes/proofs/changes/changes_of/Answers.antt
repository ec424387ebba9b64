use Rattle.std.proofs.Common.{◌<◌, length, ap, ◌∙◌, arith}
use Rattle.document_changes.specs.Changes.{kind_view}
use Rattle.named_indexes.proofs.Rows.{row_more}
use Rattle.named_indexes.proofs.changes.changes_of.Goals as goal

pub loop-task-preserved : goal.loop-task-preserved
loop-task-preserved c =
    let less : c.loop-task.task-index < length c.args.tasks.now = omega arith in
    row_more kind_view (λ t. t.change.kind) c.loop-task.changes.items c.push.new.self.items c.in_ok-change.field-0.kind c.args.tasks.now c.loop-task.task-index c.task-item.result less
    c.in_ok-push.ensures.items (ap (λ v. v.kind) c.in_ok-change.ensures ∙ ap (λ t. t.change.kind) c.task-item.is) c.loop-task.invariant
