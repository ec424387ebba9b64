use Rattle.std.proofs.Common.{map, subst}
use Rattle.postings.specs.Fresh.{StandsFor}
use Rattle.posting_sets.specs.Blocks.{HaveRanks}
use Rattle.posting_sets.proofs.OccursLemmas.{ok_of}
use Rattle.row_index.specs.Standing.{placed}
use Rattle.doc_search.proofs.RowLemmas.{met_by_number}
use Rattle.doc_search.proofs.source.SnapshotRuleSource.meeting_by_number.Goals as goal

pub returns : goal.returns
returns g c = ok_of _ _ c.meeting_by_number.result c.meeting_by_number.ensures (λ rows are.
    let documents = g.I.IndexedRows.documents c.args.self.now in
    met_by_number documents c.self.inside.lists.postings c.self.inside.lists.ranks c.args.condition.now c.args.universe.now.ids rows.items are
    (subst (λ index. StandsFor c.self.inside.lists.postings (map placed (g.I.IndexedRows.documents index))) c.self.view_is c.self.invariant.0)
    (subst (λ index. HaveRanks c.self.inside.lists.ranks (map placed (g.I.IndexedRows.documents index))) c.self.view_is c.self.invariant.1))
