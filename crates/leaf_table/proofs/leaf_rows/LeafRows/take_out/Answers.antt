use Rattle.std.proofs.Common.{None, set, ap, ◌∙◌}
use Rattle.std.proofs.lemmas.List.{map-set}
use Rattle.std.specs.Option.{option_map}
use Rattle.leaf_table.specs.Rows.{leaves_named, rows_named}
use Rattle.leaf_table.proofs.leaf_rows.LeafRows.take_out.Goals as goal

pub returns-clause-rows : goal.returns-clause-rows
returns-clause-rows c =
    let leaves = c.self.inside.pool.leaves.items in
    map-set (option_map (leaves_named leaves)) c.self.inside.rows.items c.args.id.0 c.nothing.result
    ∙ ap (λ row. set (rows_named leaves c.self.inside.rows.items) c.args.id.0 (option_map (leaves_named leaves) row)) c.nothing.ensures
    ∙ ap (λ table. set table.rows c.args.id.0 None) c.self.view_is
