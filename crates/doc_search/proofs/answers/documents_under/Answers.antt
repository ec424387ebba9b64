use Rattle.std.proofs.Common.{map, sym, subst}
use Rattle.facet_index.specs.Places.{IsIndexOf}
use Rattle.row_index.specs.Standing.{faceted}
use Rattle.doc_search.proofs.SortLemmas.{under}
use Rattle.doc_search.proofs.answers.documents_under.Goals as goal

pub returns : goal.returns
returns g c =
    let documents = g.I.IndexedRows.documents c.args.rows.now in
    under documents c.args.up c.args.path.0 c.args.at.now c.args.universe.now.ids c.in_ok-docs.docs.ids
    (c.in_ok-docs.ensures (map faceted documents)
    (subst (λ view. IsIndexOf view (map faceted documents)) (sym c.facets-facets.ensures) c.index-index.ensures.facets))
