use Rattle.std.proofs.Common.{◌≡◌, ◌<◌, ℕ, true, get_or}
use Rattle.leaf_table.proofs.pool.mark.Given as goal

abbrev pub invariant-loop-number : goal.invariant-loop-number
invariant-loop-number l = record {
  marked : (number : ℕ) → get_or l.initial.marks number true ≡ true → get_or l.marks number true ≡ true;
  each : (k d : ℕ) → k < l.number-index → get_or l.marks (get_or l.numbers k d) true ≡ true;
}
