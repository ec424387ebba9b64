-- What the machine holds.
use Rattle.std.specs.Prelude.{ℕ, []}
use Rattle.document_changes.specs.Changes.{ChangeData}
use Rattle.queued_changes.specs.State.{State as Waiting, idle}
use Rattle.named_indexes.specs.Indexes.{Indexes}

-- how many tasks have finished; those that wait, each with the change that it is to make; what became of the last that
-- finished; and the indexes as the finished tasks left them
abbrev pub State : Type 0
State = Waiting ChangeData Indexes

-- the machine that holds nothing
abbrev pub empty_state : State
empty_state = idle 0 [] []

-- how many tasks may be accepted
abbrev pub most_changes : ℕ
most_changes = 1000000000

-- the machine without the tasks that wait: the part that an image has
abbrev pub finished_part : State → State
finished_part s = idle s.finished s.outcomes s.indexes
