use Rattle.std.proofs.Common.{map, sym, subst}
use Rattle.leaf_table.specs.Tables.{AreLeavesOf}
use Rattle.row_index.specs.Standing.{faceted}
use Rattle.doc_search.proofs.NumberLemmas.{if_some, numbered_by_rows}
use Rattle.doc_search.proofs.answers.numbers_under.Goals as goal

pub returns : goal.returns
returns g c =
    let documents = g.I.IndexedRows.documents c.args.rows.now in
    if_some (λ pairs. numbered_by_rows documents c.leaves-leaves.result.now c.args.path.0 c.args.universe.now.ids pairs.items
    (subst (λ view. AreLeavesOf view (map faceted documents)) (sym c.leaves-leaves.ensures) c.index-index.ensures.leaves))
    c.in_ok-pairs.pairs c.in_ok-pairs.ensures
