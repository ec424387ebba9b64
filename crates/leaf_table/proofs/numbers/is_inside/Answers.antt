use Rattle.std.proofs.Common.{◌≡◌, true, int_lt, rules, ap, sym, subst, ◌∙◌}
use Rattle.std.proofs.lemmas.Int.{to_z-of_z}
use Rattle.search_base.specs.SortKeys.{leaves_under}
use Rattle.facet_index.specs.Documents.{is_between}
use Rattle.leaf_table.specs.declared.columns.TheConstants.{OTHER}
use Rattle.leaf_table.specs.Columns.{leaves_in, Tells}
use Rattle.leaf_table.proofs.NumberLemmas.{number_decides, nothing_decides}
use Rattle.leaf_table.proofs.numbers.is_inside.Goals as goal
use mir.Syntax.{w64, w128}
use mir.Val.{SFits, to_z, of_z}

pub returns-then-cell-gt-OTHER : goal.returns-then-cell-gt-OTHER
returns-then-cell-gt-OTHER c =
    let leaves = leaves_in c.args.id.0 c.args.rows.now.rows in
    let range = c.args.range.now in
    let told : Tells c.cell_of-cell.result (leaves_under range.path.0 leaves)
    = subst (λ cell. Tells cell (leaves_under range.path.0 leaves)) (sym c.cell_of-cell.ensures) (c.requires c.args.id.0) in
    let fits : SFits w64 c.cell_of-cell.result = search rules in
    let wide : SFits w128 c.from.result = search rules in
    let cell_is : to_z w64 (of_z w64 c.cell_of-cell.result) ≡ c.cell_of-cell.result = to_z-of_z w64 c.cell_of-cell.result fits in
    c.has_number.ensures
    ∙ ap (is_between range.low range.high) (to_z-of_z w128 c.from.result wide ∙ c.from.ensures ∙ cell_is)
    ∙ number_decides range.path.0 range.low range.high c.cell_of-cell.result leaves told
    (subst (λ cell. int_lt OTHER cell ≡ true) cell_is c.if-cell-gt-OTHER.true)

pub returns-then-cell-lt-OTHER : goal.returns-then-cell-lt-OTHER
returns-then-cell-lt-OTHER c =
    let leaves = leaves_in c.args.id.0 c.args.rows.now.rows in
    let range = c.args.range.now in
    let told : Tells c.cell_of-cell.result (leaves_under range.path.0 leaves)
    = subst (λ cell. Tells cell (leaves_under range.path.0 leaves)) (sym c.cell_of-cell.ensures) (c.requires c.args.id.0) in
    let fits : SFits w64 c.cell_of-cell.result = search rules in
    nothing_decides range.path.0 range.low range.high c.cell_of-cell.result leaves told
    (subst (λ cell. int_lt cell OTHER ≡ true) (to_z-of_z w64 c.cell_of-cell.result fits) c.if-cell-lt-OTHER.true)
