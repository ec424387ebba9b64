use Rattle.std.proofs.Common.{◌<◌, length, arith, sym, subst}
use Rattle.leaf_table.specs.Columns.{IsColumn}
use Rattle.leaf_table.proofs.ColumnLemmas.{same_columns, column_filled}
use Rattle.leaf_table.proofs.columns.widen_at.Goals as goal

pub returns : goal.returns
returns c =
    let rows = c.args.rows.now.rows in
    let within : c.from-at.result < length c.add_columns.new.columns.items = omega (arith, c.in_ok-add_columns.ensures.enough) in
    column_filled c.add_columns.new.columns.items rows c.from-at.result c.fill.new.column within
    (same_columns c.args.columns.now.items c.add_columns.new.columns.items rows c.add_columns.ensures.same c.requires)
    (subst (λ n. IsColumn n c.fill.new.column.items rows) (sym c.from-at.ensures) c.fill.ensures)
