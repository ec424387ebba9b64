-- Counts of faults, which never fall.
use Rattle.std.specs.Prelude.{ℕ, ◌+◌, ◌-◌, ◌^◌, ◌≤◌, min, Result, OnErr, is_ok, if◌then◌else◌}

-- a count rose: it is greater, or stands at its last value
abbrev pub Rose : ℕ → ℕ → Type 0
Rose before now = min (before + 1) (2 ^ 64 - 1) ≤ now

-- the count did not fall, and `Err` is answered only where it rose
pub record HasCause {T E : Type 0} (before now : ℕ) (result : Result T E) : Type 0 where
  pub later : before ≤ now
  pub failed : OnErr result (Rose before now)

-- the count after a call that counts itself where it fails
abbrev pub more_faults : {T E : Type 0} → ℕ → Result T E → ℕ
more_faults before result = if is_ok result then before else min (before + 1) (2 ^ 64 - 1)
