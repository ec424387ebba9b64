use Rattle.std.proofs.Common.{◌≡◌, ◌++◌, map}
use Rattle.std.specs.List.{AllByRecursion}
use Rattle.document_changes.specs.Changes.{kind_view}
use Rattle.index_changes.specs.Keyed.{HasKey}
use Rattle.task_queue.specs.Queue.{row_of}
use Rattle.named_indexes.specs.Inside.{full_row}
use Rattle.named_indexes.proofs.changes.refused_all.Given as goal

-- the outcomes so far, and then those of the changes that are left
abbrev pub invariant-loop-change : goal.invariant-loop-change
invariant-loop-change l = record {
  rows : map row_of l.outcomes.items ++ map full_row (map kind_view l.change-iterator.rest.items) ≡ map full_row (map kind_view l.fn.changes.items);
  keys : AllByRecursion HasKey (map kind_view l.change-iterator.rest.items);
}
