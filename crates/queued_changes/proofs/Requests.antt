-- Requests one after the other.
use Rattle.std.proofs.Common.{◌≡◌, ℕ, ◌+◌, ◌-◌, Bool, true, false, List, [], ◌∷◌, ◌++◌, length, drop, refl, sym, ◌∙◌, ap, arith, append_assoc, length-append}
use Rattle.std.specs.Prelude.{Result, ◌==◌, ◌≢◌, if◌then◌else◌}
use Rattle.std.proofs.lemmas.List.{append-nil}
use Rattle.std.proofs.lemmas.Bool.{eqb-true, eq-eqb, false≢true}
use Rattle.task_queue.specs.declared.task.Task.{Task}
use Rattle.task_queue.specs.Queue.{keep_last}
use Rattle.queued_changes.specs.State.{State, accepted}
use Rattle.queued_changes.specs.Machine.{run, settle, run_out, make_room, task_of, run_each}
use Rattle.queued_changes.specs.Run.{Step, Event, answered, followed, after, EndsIn, brought, tasks_in, Accepts, IsStep}
use Rattle.queued_changes.proofs.Runs.{settled_out, settled_counts, accepted_out, accepted_counts}

-- the last of a list
behind_all : {A : Type 0} (xs : List A) (x : A) → drop (length xs) (xs ++ x ∷ []) ≡ x ∷ []
behind_all [] x = refl
behind_all (y ∷ xs) x = behind_all xs x

last_is : {A : Type 0} (xs : List A) (x : A) → keep_last 1 (xs ++ x ∷ []) ≡ x ∷ []
last_is xs x =
    let front : length (xs ++ x ∷ []) - 1 ≡ length xs = omega (arith, length-append xs (x ∷ [])) in
    ap (λ (n : ℕ). drop n (xs ++ x ∷ [])) front ∙ behind_all xs x

differs : (n : ℕ) → (n == 202) ≡ false → n ≢ 202
differs n other e = false≢true (sym other ∙ eq-eqb n 202 e)

module _ {C I Q : Type 0} (changed : List ℕ → C → I → Result I ℕ) (step : State C I → Q → Step C I) where
  each_append : (xs ys : List (Task C)) (s : State C I) → run_each changed (xs ++ ys) s ≡ run_each changed ys (run_each changed xs s)
  each_append [] ys s = refl
  each_append (t ∷ xs) ys s = each_append xs ys (run changed t [] s)

  pub in_order : (s : State C I) (front back : List (Event Q)) → tasks_in changed step s (front ++ back) ≡ tasks_in changed step s front ++ tasks_in changed step (after changed step s front) back
  in_order s [] back = refl
  in_order s (e ∷ front) back =
      ap (λ (l : List (Task C)). brought changed step s e.request e.starved ++ l) (in_order (followed changed step s e.request e.starved) front back)
      ∙ sym (append_assoc (brought changed step s e.request e.starved) (tasks_in changed step (followed changed step s e.request e.starved) front) (tasks_in changed step (after changed step (followed changed step s e.request e.starved) front) back))

  -- what a reply 202 leaves
  accepts_out : (s new : State C I) → Accepts changed step s new → run_out changed new ≡ run_each changed (keep_last 1 new.queue) (run_out changed s)
  accepts_out s new (uid, kind, change, e) =
      let one : keep_last 1 new.queue ≡ task_of uid kind change s ∷ [] = ap (λ (t : State C I). keep_last 1 t.queue) e ∙ last_is (make_room changed s).queue (task_of uid kind change s) in
      ap (run_out changed) e ∙ accepted_out changed uid kind change s ∙ ap (λ (ts : List (Task C)). run_each changed ts (run_out changed s)) (sym one)

  accepts_counts : (s new : State C I) → Accepts changed step s new → accepted new ≡ accepted s + length (keep_last 1 new.queue)
  accepts_counts s new (uid, kind, change, e) =
      let one : keep_last 1 new.queue ≡ task_of uid kind change s ∷ [] = ap (λ (t : State C I). keep_last 1 t.queue) e ∙ last_is (make_room changed s).queue (task_of uid kind change s) in
      let more : accepted new ≡ accepted s + 1 = ap accepted e ∙ accepted_counts changed uid kind change s in
      omega (arith, more, ap length one)

  answered_out : IsStep changed step → (s : State C I) (q : Q) (starved : Bool) → run_out changed (answered changed step s q starved) ≡ run_each changed (brought changed step s q starved) (run_out changed s)
  answered_out is s q starved = by_memory starved
    where
      by_status : (b : Bool) → ((step s q).status == 202) ≡ b → run_out changed (step s q).state ≡ run_each changed (if b then keep_last 1 (step s q).state.queue else []) (run_out changed s)
      by_status true done = accepts_out s (step s q).state ((is s q).0 (eqb-true (step s q).status 202 done))
      by_status false other = ap (run_out changed) ((is s q).1 (differs (step s q).status other))

      by_memory : (b : Bool) → run_out changed (if b then s else (step s q).state) ≡ run_each changed (if b then [] else (if (step s q).status == 202 then keep_last 1 (step s q).state.queue else [])) (run_out changed s)
      by_memory true = refl
      by_memory false = by_status ((step s q).status == 202) refl

  followed_out : IsStep changed step → (s : State C I) (q : Q) (starved : Bool) → run_out changed (followed changed step s q starved) ≡ run_each changed (brought changed step s q starved) (run_out changed s)
  followed_out is s q starved = by_memory starved
    where
      by_status : (b : Bool) → ((step s q).status == 202) ≡ b
          → run_out changed (if b then (step s q).state else settle changed (step s q).state) ≡ run_each changed (if b then keep_last 1 (step s q).state.queue else []) (run_out changed s)
      by_status true done = accepts_out s (step s q).state ((is s q).0 (eqb-true (step s q).status 202 done))
      by_status false other = settled_out changed (step s q).state ∙ ap (run_out changed) ((is s q).1 (differs (step s q).status other))

      by_memory : (b : Bool) → run_out changed (if b then s else (if (step s q).status == 202 then (step s q).state else settle changed (step s q).state))
          ≡ run_each changed (if b then [] else (if (step s q).status == 202 then keep_last 1 (step s q).state.queue else [])) (run_out changed s)
      by_memory true = refl
      by_memory false = by_status ((step s q).status == 202) refl

  followed_counts : IsStep changed step → (s : State C I) (q : Q) (starved : Bool) → accepted (followed changed step s q starved) ≡ accepted s + length (brought changed step s q starved)
  followed_counts is s q starved = by_memory starved
    where
      by_status : (b : Bool) → ((step s q).status == 202) ≡ b
          → accepted (if b then (step s q).state else settle changed (step s q).state) ≡ accepted s + length (if b then keep_last 1 (step s q).state.queue else [])
      by_status true done = accepts_counts s (step s q).state ((is s q).0 (eqb-true (step s q).status 202 done))
      by_status false other =
          let same : accepted (step s q).state ≡ accepted s = ap accepted ((is s q).1 (differs (step s q).status other)) in
          omega (arith, settled_counts changed (step s q).state, same)

      by_memory : (b : Bool) → accepted (if b then s else (if (step s q).status == 202 then (step s q).state else settle changed (step s q).state))
          ≡ accepted s + length (if b then [] else (if (step s q).status == 202 then keep_last 1 (step s q).state.queue else []))
      by_memory true = omega arith
      by_memory false = by_status ((step s q).status == 202) refl

  pub runs : IsStep changed step → (s : State C I) (events : List (Event Q)) → run_out changed (after changed step s events) ≡ run_each changed (tasks_in changed step s events) (run_out changed s)
  runs is s [] = refl
  runs is s (e ∷ events) =
      runs is (followed changed step s e.request e.starved) events
      ∙ ap (run_each changed (tasks_in changed step (followed changed step s e.request e.starved) events)) (followed_out is s e.request e.starved)
      ∙ sym (each_append (brought changed step s e.request e.starved) (tasks_in changed step (followed changed step s e.request e.starved) events) (run_out changed s))

  pub counts : IsStep changed step → (s : State C I) (events : List (Event Q)) → accepted (after changed step s events) ≡ accepted s + length (tasks_in changed step s events)
  counts is s [] = omega arith
  counts is s (e ∷ events) =
      let rest = counts is (followed changed step s e.request e.starved) events in
      let one = followed_counts is s e.request e.starved in
      omega (arith, rest, one, length-append (brought changed step s e.request e.starved) (tasks_in changed step (followed changed step s e.request e.starved) events))

  pub ends : IsStep changed step → (mark : Bool) (s : State C I) (events : List (Event Q)) (t : State C I) → EndsIn changed step mark s events t
      → run_out changed t ≡ run_each changed (tasks_in changed step s events) (run_out changed s)
  ends is false s events t e = ap (run_out changed) e ∙ runs is s events
  ends is true s events t (front, last, split, e) =
      let all : tasks_in changed step s events ≡ tasks_in changed step s front ++ brought changed step (after changed step s front) last.request last.starved =
      ap (tasks_in changed step s) split ∙ in_order s front (last ∷ []) ∙ ap (λ (l : List (Task C)). tasks_in changed step s front ++ l) (append-nil (brought changed step (after changed step s front) last.request last.starved)) in
      ap (run_out changed) e ∙ answered_out is (after changed step s front) last.request last.starved
      ∙ ap (run_each changed (brought changed step (after changed step s front) last.request last.starved)) (runs is s front)
      ∙ sym (each_append (tasks_in changed step s front) (brought changed step (after changed step s front) last.request last.starved) (run_out changed s))
      ∙ ap (λ (l : List (Task C)). run_each changed l (run_out changed s)) (sym all)
