use Rattle.std.proofs.Common.{◌≡◌, map, take}
use Rattle.document_changes.specs.Changes.{kind_view}
use Rattle.named_indexes.specs.Inside.{kinds_in}
use Rattle.named_indexes.proofs.changes.changes_of.Given as goal

abbrev pub invariant-loop-task : goal.invariant-loop-task
invariant-loop-task l = map kind_view l.changes.items ≡ kinds_in (take l.task-index l.tasks)
