use Rattle.std.proofs.Common.{◌+◌, ◌≤◌, [], IsSome, unwrap_or}
use Rattle.std.specs.Vec.Iter.{into_iter_items}
use Rattle.leaf_table.specs.Rows.{room_of}
use Rattle.leaf_table.proofs.RowLemmas.{IsNumbering}
use Rattle.leaf_table.proofs.leaf_rows.numbered.Given as goal

abbrev pub invariant-loop-leaf : goal.invariant-loop-leaf
invariant-loop-leaf l =
    (goal.iterator-loop-leaf).can_next l.leaf-iterator ×
    (goal.iterator-loop-leaf).is_finite l.leaf-iterator ×
    IsNumbering l.initial.pool.leaves.items l.pool.leaves.items (unwrap_or l.row []) l.at (into_iter_items l.initial.leaf-iterator) (into_iter_items l.leaf-iterator) ×
    IsSome l.row ×
    (room_of l.initial.pool.leaves ≤ room_of l.pool.leaves + l.at)
