-- Tasks one after the other.
use Rattle.std.proofs.Common.{◌≡◌, ℕ, suc, zero, ◌+◌, ◌<◌, ◌≤◌, Bool, true, false, List, [], ◌∷◌, ◌++◌, length, drop, refl, ◌∙◌, ap, arith, length-append, length-drop}
use Rattle.std.specs.Prelude.{◌≢◌, ◌↔◌, Result, Ok, Err, IsOk, nat_le, if◌then◌else◌}
use Rattle.std.proofs.lemmas.Bool.{false≢true}
use Rattle.task_queue.specs.declared.task.Task.{Task}
use Rattle.task_queue.specs.Queue.{batch_len, most_queued}
use Rattle.task_queue.proofs.Batches.{longest}
use Rattle.queued_changes.specs.State.{State, accepted}
use Rattle.queued_changes.specs.Machine.{row_in, run, run_first, settle, run_out, make_room, behind, task_of, enqueued, run_each, filled, reopened}

pub batch_most : {C : Type 0} (ts : List (Task C)) → batch_len ts ≤ length ts
batch_most [] = omega arith
batch_most (t ∷ ts) = (longest t ts).within

-- a refusal whose number is not 0 is told
pub told : {I : Type 0} (r : Result I ℕ) → r ≢ Err 0 → (row_in r ≡ 0) ↔ IsOk r
told (Ok i) some = (λ e. refl, λ ok. refl)
told (Err row) some = (λ e. absurd (some (ap Err e)), λ ok. absurd (false≢true ok))

module _ {C I : Type 0} (changed : List ℕ → C → I → Result I ℕ) where
  -- some of them first, and then the rest
  out_first : (n : ℕ) (ts : List (Task C)) (s : State C I) → n ≤ length ts → s.queue ≡ ts
      → run_first changed (length (run_first changed n ts s).queue) (run_first changed n ts s).queue (run_first changed n ts s) ≡ run_first changed (length ts) ts s
  out_first zero ts s le e = ap (λ (q : List (Task C)). run_first changed (length q) q s) e
  out_first (suc n) [] s le e = absurd (omega (arith, le))
  out_first (suc n) (t ∷ ts) s le e = out_first n ts (run changed t ts s) (omega (arith, le)) refl

  pub settled_out : (s : State C I) → run_out changed (settle changed s) ≡ run_out changed s
  settled_out s = out_first (batch_len s.queue) s.queue s (batch_most s.queue) refl

  pub room_out : (s : State C I) → run_out changed (make_room changed s) ≡ run_out changed s
  room_out s = by_case (nat_le most_queued (length s.queue))
    where
      by_case : (b : Bool) → run_out changed (if b then settle changed s else s) ≡ run_out changed s
      by_case true = settled_out s
      by_case false = refl

  -- a task behind all others is the last to run
  out_behind : (u : Task C) (ts : List (Task C)) (s : State C I) → run_first changed (length (ts ++ u ∷ [])) (ts ++ u ∷ []) (behind u s) ≡ run changed u [] (run_first changed (length ts) ts s)
  out_behind u [] s = refl
  out_behind u (t ∷ ts) s = out_behind u ts (run changed t ts s)

  pub behind_out : (u : Task C) (s : State C I) → run_out changed (behind u s) ≡ run changed u [] (run_out changed s)
  behind_out u s = out_behind u s.queue s

  pub accepted_out : (uid : List ℕ) (kind : ℕ) (change : C) (s : State C I) → run_out changed (enqueued changed uid kind change s) ≡ run changed (task_of uid kind change s) [] (run_out changed s)
  accepted_out uid kind change s = behind_out (task_of uid kind change s) (make_room changed s) ∙ ap (run changed (task_of uid kind change s) []) (room_out s)

  -- what waits behind those that have run
  first_queue : (n : ℕ) (ts : List (Task C)) (s : State C I) → s.queue ≡ ts → (run_first changed n ts s).queue ≡ drop n ts
  first_queue zero ts s e = e
  first_queue (suc n) [] s e = e
  first_queue (suc n) (t ∷ ts) s e = first_queue n ts (run changed t ts s) refl

  -- no task is lost or counted twice
  first_counts : (n : ℕ) (ts : List (Task C)) (s : State C I) → s.queue ≡ ts → accepted (run_first changed n ts s) ≡ accepted s
  first_counts zero ts s e = refl
  first_counts (suc n) [] s e = refl
  first_counts (suc n) (t ∷ ts) s e = first_counts n ts (run changed t ts s) refl ∙ omega (arith, ap length e)

  pub settled_counts : (s : State C I) → accepted (settle changed s) ≡ accepted s
  settled_counts s = first_counts (batch_len s.queue) s.queue s refl

  pub room_counts : (s : State C I) → accepted (make_room changed s) ≡ accepted s
  room_counts s = by_case (nat_le most_queued (length s.queue))
    where
      by_case : (b : Bool) → accepted (if b then settle changed s else s) ≡ accepted s
      by_case true = settled_counts s
      by_case false = refl

  pub accepted_counts : (uid : List ℕ) (kind : ℕ) (change : C) (s : State C I) → accepted (enqueued changed uid kind change s) ≡ accepted s + 1
  accepted_counts uid kind change s = omega (arith, room_counts s, length-append (make_room changed s).queue (task_of uid kind change s ∷ []))

  pub waits_accepted : (uid : List ℕ) (kind : ℕ) (change : C) (s : State C I)
      → behind (task_of uid kind change (make_room changed s)) (make_room changed s) ≡ enqueued changed uid kind change s
  waits_accepted uid kind change s =
      ap (λ (n : ℕ). behind (record { number = n; uid = uid; kind = kind; change = change }) (make_room changed s)) (room_counts s)

  -- opening
  filled_out : (ts : List (Task C)) (s : State C I) → run_out changed (filled changed ts s) ≡ run_each changed ts (run_out changed s)
  filled_out [] s = refl
  filled_out (t ∷ ts) s = filled_out ts (behind t (make_room changed s)) ∙ ap (run_each changed ts) (behind_out t (make_room changed s) ∙ ap (run changed t []) (room_out s))

  pub opening : (ts : List (Task C)) (s : State C I) → s.queue ≡ [] → reopened changed ts s ≡ run_each changed ts s
  opening ts s e = filled_out ts s ∙ ap (run_each changed ts) (ap (λ (q : List (Task C)). run_first changed (length q) q s) e)

  -- a batch is at least one task, where any waits
  pub settled_shorter : (s : State C I) → 0 < batch_len s.queue → length (settle changed s).queue < length s.queue
  settled_shorter s some = omega (arith, some, batch_most s.queue, ap length (first_queue (batch_len s.queue) s.queue s refl), length-drop (batch_len s.queue) s.queue)
