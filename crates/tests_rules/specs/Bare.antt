-- Documents without a value have no entry.
use Rattle.std.specs.Prelude.{ℕ, Bool, true, false, []}
use Rattle.sort_rule.specs.Rows.{AreRows}
use Rattle.rule_buckets.specs.Entries.{sort_entry, missing_entry}

pub no_entries : (up : Bool) (path : ℕ) → AreRows [] (λ (d : ℕ). sort_entry up path []) (missing_entry up)
no_entries true path = record { known = λ d k e. absurd (cc); sooner = λ k h. absurd (cc) }
no_entries false path = record { known = λ d k e. absurd (cc); sooner = λ k h. absurd (cc) }
