-- How many documents the batches of a queue need.
use Rattle.std.proofs.Common.{◌≡◌, ◌≢◌, ℕ, suc, zero, ◌+◌, ◌<◌, ◌≤◌, List, [], ◌∷◌, length, refl, sym, ap, arith}
use Rattle.std.specs.Prelude.{Result}
use Rattle.task_queue.specs.declared.task.Task.{Task}
use Rattle.queued_changes.specs.State.{State}
use Rattle.queued_changes.specs.Machine.{run_first, settle, run_out}
use Rattle.queued_changes.specs.Batches.{batch_in}
use Rattle.queued_changes.specs.Needs.{need_of, batch_need, batches_need, out_need}

pub is_empty : {A : Type 0} (xs : List A) → (xs ≢ [] → ⊥) → xs ≡ []
is_empty [] none = refl
is_empty (x ∷ xs) none = absurd (none (λ e. cc))

module _ {C I : Type 0} (changed : List ℕ → C → I → Result I ℕ) (need : List (Task C) → I → ℕ) where
  more_batches : (m n : ℕ) (s : State C I) → m ≤ n → batches_need changed need m s ≤ batches_need changed need n s
  more_batches zero n s le = omega arith
  more_batches (suc m) zero s le = absurd (omega (arith, le))
  more_batches (suc m) (suc n) s le = let rest = more_batches m n (settle changed s) (omega (arith, le)) in omega (arith, rest)

  -- one batch needs no more than all
  pub one_batch : (s : State C I) → batch_need need s ≤ out_need changed need s
  one_batch s = by_case s.queue refl
    where
      by_case : (ts : List (Task C)) → ts ≡ s.queue → batch_need need s ≤ batches_need changed need (length ts) s
      by_case [] e =
          let none : batch_need need s ≡ 0 = ap (λ (q : List (Task C)). need_of need (batch_in (record { finished = s.finished; queue = q; outcomes = s.outcomes; indexes = s.indexes })) s.indexes) (sym e) in
          omega (arith, none)
      by_case (t ∷ ts) e = omega arith

  -- and leaves the need of the others
  pub batch_more : (s : State C I) → length (settle changed s).queue < length s.queue → batch_need need s + out_need changed need (settle changed s) ≤ out_need changed need s
  batch_more s less = by_length (length s.queue) less
    where
      by_length : (n : ℕ) → length (settle changed s).queue < n → batch_need need s + out_need changed need (settle changed s) ≤ batches_need changed need n s
      by_length zero lt = absurd (omega (arith, lt))
      by_length (suc n) lt = let rest = more_batches (length (settle changed s).queue) n (settle changed s) (omega (arith, lt)) in omega (arith, rest)

  pub out_idle : (s : State C I) → s.queue ≡ [] → run_out changed s ≡ s
  out_idle s e = ap (λ (q : List (Task C)). run_first changed (length q) q s) e
