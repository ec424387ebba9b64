use Rattle.std.proofs.Common.{map, sym, subst}
use Rattle.postings.specs.Fresh.{StandsFor}
use Rattle.path_lengths.specs.Measured.{AreLengthsOf}
use Rattle.row_index.specs.Standing.{placed}
use Rattle.doc_search.proofs.RowLemmas.{at_cost}
use Rattle.doc_search.proofs.answers.documents_at_cost.Goals as goal

pub returns : goal.returns
returns g c =
    let documents = g.I.IndexedRows.documents c.args.rows.now in
    at_cost documents c.args.words.now c.args.cost c.args.universe.now.ids c.in_ok-docs.docs.ids
    (c.in_ok-docs.ensures (map placed documents)
    (subst (λ view. StandsFor view (map placed documents)) (sym c.places-places.ensures) c.index-index.ensures.places)
    (subst (λ view. AreLengthsOf view (map placed documents)) (sym c.lengths-lengths.ensures) c.index-index.ensures.lengths))
