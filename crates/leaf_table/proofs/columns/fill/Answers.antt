use Rattle.std.proofs.Common.{◌≡◌, [], ◌∷◌, ◌++◌, length, rules, sym, ap, subst, ◌∙◌}
use Rattle.std.proofs.lemmas.Int.{to_z-of_z}
use Rattle.search_base.specs.SortKeys.{leaves_under}
use Rattle.leaf_table.specs.Columns.{leaves_in, Tells, IsColumn}
use Rattle.leaf_table.proofs.ColumnLemmas.{cell_pushed}
use Rattle.leaf_table.proofs.columns.fill.Goals as goal
use mir.Syntax.{w64}
use mir.Val.{SFits}

pub loop-path-preserved : goal.loop-path-preserved
loop-path-preserved c =
    let fits : SFits w64 c.told-cell.result = search rules in
    let rows = c.args.rows.now.rows in
    let length_is : c.len-in-loop-path-3.result ≡ length c.loop-path.column.items = c.len-in-loop-path-3.ensures ∙ c.loop-path.column.ok.0 in
    subst (λ items. IsColumn c.args.path.0 items rows) (sym c.in_ok-push.ensures.items)
    (subst (λ cell. IsColumn c.args.path.0 (c.loop-path.column.items ++ cell ∷ []) rows) (sym (to_z-of_z w64 c.told-cell.result fits))
    (cell_pushed c.args.path.0 c.loop-path.column.items rows c.told-cell.result c.loop-path.invariant
    (subst (λ leaves. Tells c.told-cell.result (leaves_under c.args.path.0 leaves)) (ap (λ n. leaves_in n rows) length_is) c.told-cell.ensures)))
