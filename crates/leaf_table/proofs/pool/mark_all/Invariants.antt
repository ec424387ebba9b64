use Rattle.std.proofs.Common.{◌≡◌, ◌<◌, ℕ, true, get_or, List, Option, [], unwrap_or}
use Rattle.std.specs.List.{All}
use Rattle.leaf_table.proofs.pool.mark_all.Given as goal

abbrev pub invariant-loop-row : goal.invariant-loop-row
invariant-loop-row l = (k : ℕ) (d : Option (List ℕ)) → k < l.row-index → All (λ number. get_or l.marks number true ≡ true) (unwrap_or (get_or l.rows k d) [])
