use Rattle.std.specs.Vec.Iter.{into_iter_items}
use Rattle.std.proofs.Common.{◌≤◌}
use Rattle.leaf_table.specs.Changes.{leaf_count}
use Rattle.leaf_table.specs.Columns.{AreColumns}
use Rattle.leaf_table.proofs.ChangeLemmas.{IsSetting}
use Rattle.leaf_table.proofs.table.LeafTable.put_in.Given as goal

abbrev pub invariant-loop-row : goal.invariant-loop-row
invariant-loop-row l =
    (goal.iterator-loop-row).can_next l.row-iterator ×
    (goal.iterator-loop-row).is_finite l.row-iterator ×
    IsSetting l.initial.self-inside.rows.rows l.self-inside.rows.rows (into_iter_items l.initial.row-iterator) (into_iter_items l.row-iterator) ×
    (leaf_count (into_iter_items l.row-iterator) ≤ l.self-inside.rows.room) ×
    AreColumns l.self-inside.columns.items l.self-inside.rows.rows
