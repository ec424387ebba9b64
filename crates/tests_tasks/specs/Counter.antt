-- A worker that keeps the amounts of its changes, and refuses an amount of 0.
use Rattle.std.specs.Prelude.{◌≢◌, ℕ, List, [], ◌∷◌, ◌++◌, map, filter, Bool, true, false, nat_lt, Result, Ok, Err}
use Rattle.std.proofs.Common.{◌≡◌, ap, arith}
use Rattle.task_queue.specs.declared.task.Task.{Task}
use Rattle.task_queue.specs.declared.outcome.Outcome.{Outcome}
use Rattle.task_queue.specs.declared.outcome.Outcome.TheVariants.{Succeeded, Failed}
use Rattle.queued_changes.specs.Machine.{row_in}

abbrev pub kept_if : Bool → ℕ → List ℕ → Result (List ℕ) ℕ
kept_if true amount kept = Ok (kept ++ amount ∷ [])
kept_if false amount kept = Err 27

abbrev pub counted : List ℕ → ℕ → List ℕ → Result (List ℕ) ℕ
counted uid amount kept = kept_if (nat_lt 0 amount) amount kept

abbrev pub outcome_if : Bool → Outcome
outcome_if true = Succeeded
outcome_if false = Failed 27

abbrev pub outcome_of : ℕ → Outcome
outcome_of amount = outcome_if (nat_lt 0 amount)

-- the amounts that are kept of some tasks
abbrev pub amounts_of : List (Task ℕ) → List ℕ
amounts_of batch = filter (λ amount. nat_lt 0 amount) (map (λ t. t.change) batch)

-- its refusals have a number
pub has_number : (uid : List ℕ) (amount : ℕ) (kept : List ℕ) → counted uid amount kept ≢ Err 0
has_number uid amount kept = by_case (nat_lt 0 amount)
  where
    by_case : (b : Bool) → kept_if b amount kept ≢ Err 0
    by_case true e = cc
    by_case false e = let none : 27 ≡ 0 = ap row_in e in absurd (omega (arith, none))
