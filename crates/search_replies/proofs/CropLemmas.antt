-- One row more before those of a set of lengths.
use Rattle.std.proofs.Common.{◌≡◌, ℕ, Bool, true, false, ◌||◌, cond, Option, Some, refl}
use Rattle.std.specs.Option.{option_or}

pub length_more : (star here : Bool) (length : ℕ) (had all : Option ℕ) → star ≡ false
    → option_or (cond here (Some length) had) all ≡ cond (star || here) (Some length) (option_or had all)
length_more true here length had all none = absurd (cc)
length_more false true length had all none = refl
length_more false false length had all none = refl
