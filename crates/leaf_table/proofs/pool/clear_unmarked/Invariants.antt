use Rattle.std.proofs.Common.{◌≡◌, ℕ, true, get_or}
use Rattle.leaf_table.specs.Rows.{leaf_in}
use Rattle.leaf_table.proofs.pool.clear_unmarked.Given as goal

abbrev pub invariant-loop-number : goal.invariant-loop-number
invariant-loop-number l = (number : ℕ) → get_or l.marks number true ≡ true → leaf_in l.leaves number ≡ leaf_in l.initial.leaves number
