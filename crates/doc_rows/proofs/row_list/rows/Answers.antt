use Rattle.std.proofs.Common.{◌∙◌}
use Rattle.doc_values.specs.Walk.{walk}
use Rattle.doc_rows.proofs.PathLemmas.{path_more}
use Rattle.doc_rows.proofs.row_list.rows.Goals as goal

pub loop-number-preserved : goal.loop-number-preserved
loop-number-preserved c =
    let visits = walk c.args.document.now in
    let path = c.index-paths-number.result in
    let found = c.values_at-values.result.now in
    let found_is = c.values_at-values.ensures ∙ c.in_ok-values.ensures path in
    path_more visits c.args.paths.now c.args.uses.now c.loop-number.number path _ found c.loop-number.rows _ _ c.loop-number-test.true c.requires.uses
    c.index-paths-number.is found_is c.in_ok-add_path.ensures c.loop-number.invariant
