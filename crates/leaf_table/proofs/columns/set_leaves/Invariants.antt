use Rattle.std.proofs.Common.{◌≡◌, ◌==◌, ℕ, false, take}
use Rattle.search_base.specs.SortKeys.{leaves_under}
use Rattle.leaf_table.specs.Columns.{Tells, cell_at}
use Rattle.leaf_table.proofs.columns.set_leaves.Given as goal

abbrev pub invariant-loop-leaf : goal.invariant-loop-leaf
invariant-loop-leaf l = record {
  told : (path : ℕ) → Tells (cell_at path l.id.0 l.columns) (leaves_under path (take l.leaf-index l.leaves));
  others : (path d : ℕ) → (l.id.0 == d) ≡ false → cell_at path d l.columns ≡ cell_at path d l.initial.columns;
}
