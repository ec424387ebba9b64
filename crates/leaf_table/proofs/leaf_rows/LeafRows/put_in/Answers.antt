use Rattle.std.proofs.Common.{Some, length, set, ap, arith, ◌∙◌}
use Rattle.leaf_table.proofs.RowLemmas.{rows_set, each_same, some_named}
use Rattle.leaf_table.proofs.leaf_rows.LeafRows.put_in.Goals as goal

pub returns : goal.returns
returns c =
    let old = c.self.inside.pool.leaves.items in
    let new = c.numbered.new.pool.leaves.items in
    let rows = c.self.inside.rows.items in
    let id = c.row.inside.id.0 in
    let named = some_named new c.numbered.result c.row.inside.leaves.items c.numbered.ensures.some c.numbered.ensures.leaves in
    let len = ap (λ row. length row.leaves) c.row.view_is in
    let was = ap (λ table. table.room) c.self.view_is in
    record {
      rows = rows_set old new rows id c.numbered.result (Some c.row.inside.leaves.items) (each_same old new rows c.numbered.ensures.others c.self.invariant) named
          ∙ ap (λ table. set table.rows id (Some c.row.inside.leaves.items)) c.self.view_is
          ∙ ap (λ row. set c.args.self.now.rows row.id (Some row.leaves)) c.row.view_is;
      room = let more = c.numbered.ensures.room in omega arith;
    }
