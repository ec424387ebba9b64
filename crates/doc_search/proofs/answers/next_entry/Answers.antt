use Rattle.std.proofs.Common.{map, sym, subst}
use Rattle.std.specs.Option.{option_copied}
use Rattle.facet_index.specs.Places.{IsIndexOf}
use Rattle.row_index.specs.Standing.{faceted}
use Rattle.doc_search.proofs.SortLemmas.{next_for}
use Rattle.doc_search.proofs.answers.next_entry.Goals as goal

pub returns : goal.returns
returns g c =
    let documents = g.I.IndexedRows.documents c.args.rows.now in
    let both = next_for documents c.args.up c.args.path.0 c.args.universe.now.ids (option_copied c.args.after) c.in_ok-found.found
    (c.in_ok-found.ensures (map faceted documents)
    (subst (λ view. IsIndexOf view (map faceted documents)) (sym c.facets-facets.ensures) c.index-index.ensures.facets)) in
    record { some = both.0; none = both.1 }
