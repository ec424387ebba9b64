use Rattle.std.proofs.Common.{map, sym, subst}
use Rattle.facet_index.specs.Places.{IsIndexOf}
use Rattle.leaf_table.specs.Tables.{AreLeavesOf}
use Rattle.row_index.specs.Standing.{faceted}
use Rattle.doc_search.specs.Rows.{rows_at}
use Rattle.doc_search.proofs.RowLemmas.{rows_are}
use Rattle.doc_search.proofs.passing.documents_passing.Goals as goal

pub returns : goal.returns
returns g c =
    let documents = g.I.IndexedRows.documents c.args.rows.now in
    c.in_ok-docs.ensures (map faceted documents) (rows_at documents)
    (record {
      index = subst (λ view. IsIndexOf view (map faceted documents)) (sym c.facets.ensures) c.index-index.ensures.facets;
      leaves = subst (λ view. AreLeavesOf view (map faceted documents)) (sym c.leaves.ensures) c.index-index.ensures.leaves;
    })
    (rows_are documents)
