use Rattle.std.proofs.Common.{map, sym, subst, ◌∙◌}
use Rattle.postings.specs.Fresh.{StandsFor}
use Rattle.posting_sets.specs.Blocks.{HaveRanks}
use Rattle.row_index.specs.Standing.{placed}
use Rattle.doc_search.specs.Lists.{ListsView}
use Rattle.doc_search.proofs.source.Snapshot.of_query.Goals as goal

pub invariant_of-made : goal.invariant_of-made
invariant_of-made g c =
    let documents = g.I.IndexedRows.documents c.made.inside.rows.now in
    subst (λ (lists : ListsView). StandsFor lists.postings (map placed documents) × HaveRanks lists.ranks (map placed documents))
    (sym c.gather_all.ensures) c.made.invariant
