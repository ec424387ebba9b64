-- A batch that a worker has made.
use Rattle.std.proofs.Common.{◌≡◌, ◌≢◌, ℕ, suc, zero, ◌<◌, ◌≤◌, Bool, true, false, List, [], ◌∷◌, length, map, take, refl, sym, ◌∙◌, ap, subst, arith}
use Rattle.std.specs.Prelude.{Result, IsTrue, ◌↔◌, nat_le}
use Rattle.std.specs.List.{AllByRecursion}
use Rattle.std.proofs.lemmas.List.{length-map, length-take-le}
use Rattle.std.proofs.lemmas.Bool.{leb-true}
use Rattle.task_queue.specs.declared.outcome.Outcome.{Outcome}
use Rattle.task_queue.specs.declared.task.Task.{Task}
use Rattle.task_queue.specs.Queue.{Tasks, batch_len, row_of, all_done, one_done, is_joined, most_queued}
use Rattle.task_queue.specs.Laws.{IsLike}
use Rattle.task_queue.proofs.Batches.{longest}
use Rattle.queued_changes.specs.State.{State, accepted}
use Rattle.queued_changes.specs.Machine.{run, run_first, settle}
use Rattle.queued_changes.specs.Batches.{IsBatch, after_each, rows_of}
use Rattle.queued_changes.proofs.Runs.{batch_most, settled_shorter, settled_counts}

abbrev pub state_in : {C I : Type 0} → Tasks C → I → State C I
state_in q i = record { finished = q.finished; queue = q.queued; outcomes = q.outcomes; indexes = i }

-- a full queue has room once a batch has left it
pub has_room : {A : Type 0} (old new : List A) (some : Bool) → nat_le most_queued (length old) ≡ true → length old ≤ most_queued → (IsTrue some ↔ (old ≢ []))
    → (IsTrue some → length new < length old) → length new < most_queued
has_room old new some full few is shorter =
    let long = leb-true most_queued (length old) full in
    let less = shorter (is.1 (λ none. absurd (omega (arith, long, ap length none)))) in
    omega (arith, few, less)

module _ {C : Type 0} where
  -- the first of some tasks that are alike are a batch
  front_is : (n : ℕ) (t : Task C) (ts : List (Task C)) → 1 ≤ n → AllByRecursion (IsLike t) (take n (t ∷ ts)) → (is_joined t.kind ≡ false → n ≡ 1) → IsBatch (take n (t ∷ ts))
  front_is zero t ts some alike alone = absurd (omega (arith, some))
  front_is (suc k) t ts some alike alone =
      (alike.1, λ other. let none : k ≡ 0 = omega (arith, alone other) in ap (λ (m : ℕ). take m ts) none)

  is_batch : (ts : List (Task C)) → batch_len ts ≢ 0 → IsBatch (take (batch_len ts) ts)
  is_batch [] some = absurd (some refl)
  is_batch (t ∷ ts) some = front_is (batch_len (t ∷ ts)) t ts (longest t ts).some (longest t ts).alike (longest t ts).alone

  done_keeps : (P : Task C → Type 0) (rows : List ℕ) (q : Tasks C) → AllByRecursion P q.queued → AllByRecursion P (all_done rows q).queued
  done_keeps P [] q all = all
  done_keeps P (row ∷ rows) q all = done_keeps P rows (one_done row q) (one_keeps q.queued all)
    where
      one_keeps : (ts : List (Task C)) → AllByRecursion P ts → AllByRecursion P (one_done row (record { finished = q.finished; queued = ts; outcomes = q.outcomes })).queued
      one_keeps [] all = tt
      one_keeps (t ∷ ts) all = all.1

  -- `slice` are the tasks that wait, and `n` of them are the oldest batch
  module _ (ts slice : List (Task C)) (n : ℕ) (tasks : slice ≡ ts) (count : n ≡ batch_len ts) where
    pub within : n ≤ length ts
    within = omega (arith, count, batch_most ts)

    pub whole_slice : n ≡ length (take n slice)
    whole_slice = sym (length-take-le n slice (omega (arith, within, ap length tasks)))

    batch_at : take n slice ≡ take (batch_len ts) ts
    batch_at = ap (take n) tasks ∙ ap (λ (k : ℕ). take k ts) count

    pub slice_is : n ≢ 0 → IsBatch (take n slice)
    slice_is some = subst IsBatch (sym batch_at) (is_batch ts (λ none. some (count ∙ none)))

module _ {C I : Type 0} (changed : List ℕ → C → I → Result I ℕ) where
  rows_many : (ts : List (Task C)) (i : I) → length (rows_of changed ts i) ≡ length ts
  rows_many [] i = refl
  rows_many (t ∷ ts) i = ap suc (rows_many ts _)

  -- the outcomes of the first tasks, and what these leave
  first_done : (n : ℕ) (ts : List (Task C)) (s : State C I) → s.queue ≡ ts
      → state_in (all_done (rows_of changed (take n ts) s.indexes) (record { finished = s.finished; queued = ts; outcomes = s.outcomes })) (after_each changed (take n ts) s.indexes)
      ≡ run_first changed n ts s
  first_done zero ts s e = ap (λ (q : List (Task C)). record { finished = s.finished; queue = q; outcomes = s.outcomes; indexes = s.indexes }) (sym e)
  first_done (suc n) [] s e = ap (λ (q : List (Task C)). record { finished = s.finished; queue = q; outcomes = s.outcomes; indexes = s.indexes }) (sym e)
  first_done (suc n) (t ∷ ts) s e = first_done n ts (run changed t ts s) refl

  -- `slice` are the tasks that wait, `n` of them the oldest batch, and `made` their outcomes
  module _ (q : Tasks C) (w : I) (slice : List (Task C)) (n : ℕ) (made : List Outcome) (tasks : slice ≡ q.queued) (count : n ≡ batch_len q.queued)
      (each : map row_of made ≡ rows_of changed (take n slice) w) where
    pub made_within : length made ≤ length q.queued
    made_within =
        let many : length (map row_of made) ≡ n = ap length each ∙ rows_many (take n slice) w ∙ sym (whole_slice q.queued slice n tasks count) in
        omega (arith, many, length-map made row_of, within q.queued slice n tasks count)

    -- `given` are the outcomes that are handed on, `new` and `left` what is there after that
    module _ (new : Tasks C) (left : I) (given : List Outcome) (s : State C I) (view : state_in q w ≡ s) (applied : left ≡ after_each changed (take n slice) w)
        (same : given ≡ made) (done : new ≡ all_done (map row_of given) q) where
      pub settles : state_in new left ≡ settle changed s
      settles =
          let rows : map row_of given ≡ rows_of changed (take (batch_len q.queued) q.queued) w =
          ap (map row_of) same ∙ each ∙ ap (λ (ts : List (Task C)). rows_of changed ts w) (batch_at q.queued slice n tasks count) in
          let left_is : left ≡ after_each changed (take (batch_len q.queued) q.queued) w = applied ∙ ap (λ (ts : List (Task C)). after_each changed ts w) (batch_at q.queued slice n tasks count) in
          ap (λ (t : Tasks C). state_in t left) (done ∙ ap (λ (l : List ℕ). all_done l q) rows)
          ∙ ap (state_in (all_done (rows_of changed (take (batch_len q.queued) q.queued) w) q)) left_is
          ∙ first_done (batch_len q.queued) q.queued (state_in q w) refl
          ∙ ap (settle changed) view

      pub settles_shorter : n ≢ 0 → length new.queued < length s.queue
      settles_shorter some =
          let less = settled_shorter changed s (omega (arith, count, some, ap (λ (t : State C I). batch_len t.queue) view)) in
          omega (arith, less, ap (λ (t : State C I). length t.queue) settles)

      pub settles_counts : accepted (state_in new left) ≡ accepted s
      settles_counts = ap accepted settles ∙ settled_counts changed s

      pub settles_keeps : (P : Task C → Type 0) → AllByRecursion P q.queued → AllByRecursion P new.queued
      settles_keeps P all = subst (λ (t : Tasks C). AllByRecursion P t.queued) (sym done) (done_keeps P (map row_of given) q all)
