-- How many stored documents are read, where `need` says how many a batch needs.
use Rattle.std.specs.Prelude.{ℕ, suc, zero, ◌+◌, List, [], ◌∷◌, length, nat_le, Result, if◌then◌else◌}
use Rattle.task_queue.specs.declared.task.Task.{Task}
use Rattle.task_queue.specs.Queue.{most_queued}
use Rattle.queued_changes.specs.State.{State}
use Rattle.queued_changes.specs.Machine.{settle, make_room, behind}
use Rattle.queued_changes.specs.Batches.{batch_in}

module _ {C I : Type 0} (need : List (Task C) → I → ℕ) where
  -- of the oldest batch; none where no task waits
  abbrev pub need_of : List (Task C) → I → ℕ
  need_of [] i = 0
  need_of (t ∷ ts) i = need (t ∷ ts) i

  abbrev pub batch_need : State C I → ℕ
  batch_need s = need_of (batch_in s) s.indexes

  -- to make room
  abbrev pub room_need : State C I → ℕ
  room_need s = if nat_le most_queued (length s.queue) then batch_need s else 0

module _ {C I : Type 0} (changed : List ℕ → C → I → Result I ℕ) (need : List (Task C) → I → ℕ) where
  -- of so many batches
  abbrev pub batches_need : ℕ → State C I → ℕ
  batches_need zero s = 0
  batches_need (suc n) s = batch_need need s + batches_need n (settle changed s)

  -- of all tasks that wait: they are no more batches than tasks
  abbrev pub out_need : State C I → ℕ
  out_need s = batches_need (length s.queue) s

  -- of opening
  abbrev pub fill_need : List (Task C) → State C I → ℕ
  fill_need [] s = out_need s
  fill_need (t ∷ ts) s = room_need need s + fill_need ts (behind t (make_room changed s))
