use Rattle.std.proofs.Common.{ap₂, subst, ◌∙◌}
use Rattle.leaf_table.specs.Rows.{Each}
use Rattle.leaf_table.proofs.RowLemmas.{Same, rows_same}
use Rattle.leaf_table.proofs.leaf_rows.LeafRows.let_go.Goals as goal

pub returns : goal.returns
returns c =
    let old = c.self.inside.pool.leaves.items in
    let new = c.let_go.new.self.leaves.items in
    let rows = c.self.inside.rows.items in
    let same : Each (Same old new) rows = subst (Each (Same old new)) c.as_slice.ensures.value c.let_go.ensures.leaves in
    ap₂ (λ rows room. record { rows = rows; room = room }) (rows_same old new rows same) c.let_go.ensures.room ∙ c.self.view_is
