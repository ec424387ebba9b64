-- What the worker of the tests keeps of a batch, and what becomes of it.
use Rattle.std.proofs.Common.{◌≡◌, ℕ, Bool, true, false, List, [], ◌∷◌, ◌++◌, map, refl, sym, ◌∙◌, ap, append_assoc}
use Rattle.std.specs.Prelude.{nat_lt, if◌then◌else◌}
use Rattle.std.proofs.lemmas.List.{append-nil}
use Rattle.task_queue.specs.declared.task.Task.{Task}
use Rattle.task_queue.specs.Queue.{row_of}
use Rattle.queued_changes.specs.Machine.{left_in, row_in}
use Rattle.queued_changes.specs.Batches.{after_each, rows_of}
use Rattle.tests_tasks.specs.Counter.{kept_if, counted, outcome_if, outcome_of, amounts_of}

pub after_is : (batch : List (Task ℕ)) (kept : List ℕ) → after_each counted batch kept ≡ kept ++ amounts_of batch
after_is [] kept = sym (append-nil kept)
after_is (t ∷ ts) kept = by_case (nat_lt 0 t.change) (after_is ts (kept ++ t.change ∷ [])) (after_is ts kept)
  where
    by_case : (b : Bool) → after_each counted ts (kept ++ t.change ∷ []) ≡ (kept ++ t.change ∷ []) ++ amounts_of ts → after_each counted ts kept ≡ kept ++ amounts_of ts
        → after_each counted ts (left_in (kept_if b t.change kept) kept) ≡ kept ++ (if b then t.change ∷ amounts_of ts else amounts_of ts)
    by_case true made same = made ∙ append_assoc kept (t.change ∷ []) (amounts_of ts)
    by_case false made same = same

pub rows_are : (batch : List (Task ℕ)) (kept : List ℕ) → map row_of (map (λ t. outcome_of t.change) batch) ≡ rows_of counted batch kept
rows_are [] kept = refl
rows_are (t ∷ ts) kept = by_case (nat_lt 0 t.change) (rows_are ts (kept ++ t.change ∷ [])) (rows_are ts kept)
  where
    by_case : (b : Bool) → map row_of (map (λ t. outcome_of t.change) ts) ≡ rows_of counted ts (kept ++ t.change ∷ []) → map row_of (map (λ t. outcome_of t.change) ts) ≡ rows_of counted ts kept
        → row_of (outcome_if b) ∷ map row_of (map (λ t. outcome_of t.change) ts) ≡ row_in (kept_if b t.change kept) ∷ rows_of counted ts (left_in (kept_if b t.change kept) kept)
    by_case true made same = ap (λ (l : List ℕ). 0 ∷ l) made
    by_case false made same = ap (λ (l : List ℕ). 27 ∷ l) same
