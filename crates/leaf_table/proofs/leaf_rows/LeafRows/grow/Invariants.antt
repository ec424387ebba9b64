use Rattle.std.proofs.Common.{◌≡◌, ℕ, ◌-◌, IsSome}
use Rattle.std.specs.Vec.{vec_len}
use Rattle.leaf_table.specs.Rows.{leaf_in, rows_named, Each}
use Rattle.leaf_table.proofs.ChangeLemmas.{kept_in}
use Rattle.leaf_table.proofs.leaf_rows.LeafRows.grow.Given as goal

abbrev pub invariant-loop-self : goal.invariant-loop-self
invariant-loop-self l = record {
  same : (id : ℕ) → kept_in id (rows_named l.self-inside.pool.leaves.items l.self-inside.rows.items)
      ≡ kept_in id (rows_named l.initial.self-inside.pool.leaves.items l.initial.self-inside.rows.items);
  named : Each (λ number. IsSome (leaf_in l.self-inside.pool.leaves.items number)) l.self-inside.rows.items;
}

abbrev pub decreases-loop-self : goal.decreases-loop-self
decreases-loop-self l = l.len - vec_len l.self-inside.rows
