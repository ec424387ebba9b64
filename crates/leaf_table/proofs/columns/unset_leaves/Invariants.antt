use Rattle.std.proofs.Common.{◌≡◌, ◌==◌, ◌<◌, ℕ, false, []}
use Rattle.leaf_table.specs.Columns.{Tells, cell_at}
use Rattle.leaf_table.proofs.columns.unset_leaves.Given as goal

abbrev pub invariant-loop-column : goal.invariant-loop-column
invariant-loop-column l = record {
  told : (path : ℕ) → path < l.column-index → Tells (cell_at path l.id.0 l.column-items) [];
  others : (path d : ℕ) → (l.id.0 == d) ≡ false → cell_at path d l.column-items ≡ cell_at path d l.initial.column-items;
}
