use Rattle.std.proofs.Common.{◌≡◌, ℕ, ◌-◌, [], get_or, vec_len}
use Rattle.leaf_table.specs.Columns.{columns_of}
use Rattle.leaf_table.proofs.columns.add_columns.Given as goal

abbrev pub invariant-loop-alloc : goal.invariant-loop-alloc
invariant-loop-alloc l = (path : ℕ) → get_or (columns_of l.columns.items) path [] ≡ get_or (columns_of l.initial.columns.items) path []

abbrev pub decreases-loop-alloc : goal.decreases-loop-alloc
decreases-loop-alloc l = l.len - vec_len l.columns
