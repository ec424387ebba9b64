-- Tasks that have run out, and tasks that are run again.
use Rattle.std.proofs.Common.{◌≡◌, ℕ, ◌+◌, List, [], ◌∷◌, length, true, refl, sym, ◌∙◌, ap, arith, Result, Ok, Err}
use Rattle.std.specs.Prelude.{nat_lt}
use Rattle.std.proofs.lemmas.Bool.{lt-ltb}
use Rattle.change_payloads.specs.Change.{Spot as PayloadSpot}
use Rattle.document_changes.specs.Changes.{ChangeData}
use Rattle.task_queue.specs.declared.task.Task.{Task}
use Rattle.queued_changes.specs.State.{accepted}
use Rattle.queued_changes.specs.Machine.{run, run_first, run_out, run_each, make_room, behind}
use Rattle.queued_changes.proofs.Runs.{room_out, room_counts, behind_out}
use Rattle.named_indexes.specs.Changes.{changed}
use Rattle.named_indexes.specs.Payloads.{Records}
use Rattle.named_indexes.proofs.Recording.{good_recorded}
use Rattle.search_base.specs.Trying.{◌>>=◌}
use Rattle.search_routes.specs.Done.{IsPrepared}
use Rattle.search_routes.specs.Machine.{numbered}
use Rattle.search_routes.specs.Redo.{redone, task_again}
use Rattle.search_routes.specs.State.{State, finished_part, most_changes}
use Rattle.search_routes.specs.declared.tasks.PreparedTask.{PreparedTask}

-- ---- tasks that have run out

first_queue : (ts : List (Task ChangeData)) (s : State) → s.queue ≡ ts → (run_first changed (length ts) ts s).queue ≡ []
first_queue [] s e = e
first_queue (t ∷ ts) s e = first_queue ts (run changed t ts s) refl

first_counts : (ts : List (Task ChangeData)) (s : State) → s.queue ≡ ts → accepted (run_first changed (length ts) ts s) ≡ accepted s
first_counts [] s e = refl
first_counts (t ∷ ts) s e = first_counts ts (run changed t ts s) refl ∙ omega (arith, ap length e)

-- none waits then
pub out_queue : (s : State) → (run_out changed s).queue ≡ []
out_queue s = first_queue s.queue s refl

-- and as many were accepted
pub out_counts : (s : State) → accepted (run_out changed s) ≡ accepted s
out_counts s = first_counts s.queue s refl

-- where none waits, nothing runs
pub idle_out : (s : State) → s.queue ≡ [] → run_out changed s ≡ s
idle_out s e = ap (λ (q : List (Task ChangeData)). run_first changed (length q) q s) e

-- tasks that run out leave what they leave one by one
runs_each : (ts : List (Task ChangeData)) (s : State) → s.queue ≡ ts → run_first changed (length ts) ts s ≡ run_each changed ts (finished_part s)
runs_each [] s e = ap (λ (q : List (Task ChangeData)). record { finished = s.finished; queue = q; outcomes = s.outcomes; indexes = s.indexes }) e
runs_each (t ∷ ts) s e = runs_each ts (run changed t ts s) refl

pub out_each : (s : State) → run_out changed s ≡ run_each changed s.queue (finished_part s)
out_each s = runs_each s.queue s refl

-- ---- tasks that are run again

-- the task ran
record Ran (s : State) (r : Result (Task ChangeData) PayloadSpot) (w : State) : Type 0 where
  pub task : Task ChangeData
  pub again : r ≡ Ok task
  pub is : w ≡ run changed task [] s

pub redone_is : (s : State) (bytes : List ℕ) (t : Task ChangeData) → task_again (accepted s) bytes ≡ Ok t → redone s bytes ≡ Ok (run changed t [] s)
unfolding redone
redone_is s bytes t e = ap (λ (r : Result (Task ChangeData) PayloadSpot). r >>= λ t. Ok (run changed t [] s)) e

ran_by : (s : State) (r : Result (Task ChangeData) PayloadSpot) (w : State) → (r >>= λ t. Ok (run changed t [] s)) ≡ Ok w → Ran s r w
ran_by s (Ok t) w e = record { task = t; again = refl; is = cc (e) }
ran_by s (Err spot) w e = absurd (cc (e))

redone_ran : (s : State) (bytes : List ℕ) (w : State) → redone s bytes ≡ Ok w → Ran s (task_again (accepted s) bytes) w
unfolding redone
redone_ran s bytes w e = ran_by s (task_again (accepted s) bytes) w e

-- none waits behind it
pub redone_idle : (s : State) (bytes : List ℕ) (w : State) → redone s bytes ≡ Ok w → w.queue ≡ []
redone_idle s bytes w e = ap (λ (u : State). u.queue) (redone_ran s bytes w e).is

-- and one more was accepted
pub redone_counts : (s : State) (bytes : List ℕ) (w : State) → s.queue ≡ [] → redone s bytes ≡ Ok w → accepted w ≡ accepted s + 1
redone_counts s bytes w idle e = omega (arith, ap accepted (redone_ran s bytes w e).is, ap length idle)

-- ---- tasks that come to wait

-- a task that is read again and waits behind the others is the last that runs
pub waits_redone : (s : State) (t : Task ChangeData) (bytes : List ℕ) → task_again (accepted s) bytes ≡ Ok t → redone (run_out changed s) bytes ≡ Ok (run_out changed (behind t s))
waits_redone s t bytes again =
    redone_is (run_out changed s) bytes t (ap (λ (n : ℕ). task_again n bytes) (out_counts s) ∙ again) ∙ ap Ok (sym (behind_out changed t s))

-- the same where room is made for it
pub room_redone : (s : State) (t : Task ChangeData) (bytes : List ℕ) → task_again (accepted s) bytes ≡ Ok t
    → redone (run_out changed s) bytes ≡ Ok (run_out changed (behind t (make_room changed s)))
room_redone s t bytes again =
    ap (λ (u : State). redone u bytes) (sym (room_out changed s))
    ∙ waits_redone (make_room changed s) t bytes (ap (λ (n : ℕ). task_again n bytes) (room_counts changed s) ∙ again)

-- what records the change of a task that was prepared is read again as this task
pub prepared_again : (number : ℕ) (c : ChangeData) (prepared : PreparedTask) (bytes : List ℕ) → IsPrepared number c prepared → Records prepared.task.change bytes
    → task_again number bytes ≡ Ok prepared.task
prepared_again number c prepared bytes is records =
    let change = ap (λ (t : Task ChangeData). t.change) is.task in
    let good = good_recorded bytes prepared.task.change records.spells is.accepts.good in
    let room : nat_lt number most_changes ≡ true = lt-ltb number most_changes is.room in
    rw (good, room) (ap (λ (d : ChangeData). Ok (numbered number d)) change ∙ ap Ok (sym is.task))
