use Rattle.std.proofs.Common.{ℕ, ◌<◌, get_or}
use Rattle.leaf_table.specs.Changes.{RowView}
use Rattle.leaf_table.proofs.change.rows_for.Given as goal

abbrev pub invariant-loop-row : goal.invariant-loop-row
invariant-loop-row l = (k : ℕ) (d : RowView) → k < l.row-index → (get_or l.come k d).id < l.most
