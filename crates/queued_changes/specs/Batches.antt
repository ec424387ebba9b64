-- What a worker is asked for, and what it does.
use Rattle.std.specs.Prelude.{◌≡◌, ℕ, List, [], ◌∷◌, take, false, Result}
use Rattle.std.specs.List.{AllByRecursion}
use Rattle.task_queue.specs.declared.task.Task.{Task}
use Rattle.task_queue.specs.Queue.{batch_len, is_joined}
use Rattle.task_queue.specs.Laws.{IsLike}
use Rattle.queued_changes.specs.State.{State}
use Rattle.queued_changes.specs.Machine.{left_in, row_in}

-- tasks of one uid and one kind, at least one, and only one where a batch may not have several of the kind
abbrev pub IsBatch : {C : Type 0} → List (Task C) → Type 0
IsBatch [] = ⊥
IsBatch (first ∷ rest) = AllByRecursion (IsLike first) rest × (is_joined first.kind ≡ false → rest ≡ [])

-- the oldest batch
abbrev pub batch_in : {C I : Type 0} → State C I → List (Task C)
batch_in s = take (batch_len s.queue) s.queue

module _ {C I : Type 0} (changed : List ℕ → C → I → Result I ℕ) where
  -- the indexes after the changes of these tasks, one by one
  abbrev pub after_each : List (Task C) → I → I
  after_each [] i = i
  after_each (t ∷ ts) i = after_each ts (left_in (changed t.uid t.change i) i)

  -- what became of each
  abbrev pub rows_of : List (Task C) → I → List ℕ
  rows_of [] i = []
  rows_of (t ∷ ts) i = row_in (changed t.uid t.change i) ∷ rows_of ts (left_in (changed t.uid t.change i) i)
