use Rattle.std.proofs.Common.{◌++◌, ◌∷◌, [], pos, get_or, rules, sym, subst, ◌∙◌}
use Rattle.std.proofs.lemmas.Int.{to_z-of_z}
use mir.Syntax.{w64}
use mir.Val.{SFits}
use Rattle.leaf_table.specs.Columns.{Tells}
use Rattle.leaf_table.proofs.ColumnLemmas.{cell_set_same, cell_read}
use Rattle.leaf_table.proofs.columns.add_value.Goals as goal

pub returns-then-at-column-clause-told : goal.returns-then-at-column-clause-told
returns-then-at-column-clause-told c = λ leaves leaf same told.
    let fits : SFits w64 c.with_value.result = search rules in
    let item : SFits w64 (get_or c.args.column.now c.args.id.0 (pos 0)) = search rules in
    subst (λ cell. Tells cell (leaves ++ leaf ∷ []))
    (sym (cell_set_same c.args.column.now c.args.id.0 _ c.if-at-column.true ∙ to_z-of_z w64 c.with_value.result fits))
    (c.with_value.ensures leaves leaf same
    (subst (λ cell. Tells cell leaves) (cell_read c.args.column.now c.args.id.0 (pos 0) c.if-at-column.true ∙ sym (to_z-of_z w64 _ item)) told))
