-- How many stored documents a batch of changes reads at most.
use Rattle.std.specs.Prelude.{ℕ, List, [], ◌∷◌, map}
use Rattle.document_changes.specs.Changes.{ChangeData}
use Rattle.index_changes.specs.Batches.{batch_needed}
use Rattle.task_queue.specs.declared.task.Task.{Task}
use Rattle.named_indexes.specs.Indexes.{Indexes, index_or_empty}

-- as many as the index of the first of its tasks needs for all of them; all tasks of a batch are of one index
abbrev pub need : List (Task ChangeData) → Indexes → ℕ
need [] es = 0
need (t ∷ ts) es = batch_needed (map (λ u. u.change.kind) (t ∷ ts)) (index_or_empty t.uid es)
