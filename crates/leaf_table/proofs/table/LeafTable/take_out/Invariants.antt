use Rattle.std.proofs.Common.{◌≡◌, ℕ, reverse, take, length}
use Rattle.leaf_table.specs.Columns.{AreColumns}
use Rattle.leaf_table.specs.Changes.{numbers, left_at}
use Rattle.leaf_table.proofs.ChangeLemmas.{kept_in}
use Rattle.leaf_table.proofs.table.LeafTable.take_out.Given as goal

abbrev pub invariant-loop-id : goal.invariant-loop-id
invariant-loop-id l =
    record {
      each : (id : ℕ) → kept_in id l.self-inside.rows.rows ≡ left_at id (reverse (numbers (take l.id-index l.gone))) (kept_in id l.initial.self-inside.rows.rows);
      rows : length l.self-inside.rows.rows ≡ length l.initial.self-inside.rows.rows;
      room : l.self-inside.rows.room ≡ l.initial.self-inside.rows.room;
      columns : AreColumns l.self-inside.columns.items l.self-inside.rows.rows;
    }
