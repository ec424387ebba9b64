use Rattle.std.proofs.Common.{map, subst}
use Rattle.postings.specs.Fresh.{StandsFor}
use Rattle.posting_sets.specs.Blocks.{HaveRanks}
use Rattle.posting_sets.proofs.OccursLemmas.{ok_of}
use Rattle.row_index.specs.Standing.{placed}
use Rattle.doc_search.proofs.RowLemmas.{met}
use Rattle.doc_search.proofs.source.SnapshotRuleSource.meeting.Goals as goal

pub returns : goal.returns
returns g c = ok_of _ _ c.meeting.result c.meeting.ensures (λ set are.
    let documents = g.I.IndexedRows.documents c.args.self.now in
    met documents c.args.condition.now c.args.universe.now.ids set.ids (are (map placed documents)
    (subst (λ index. StandsFor c.self.inside.lists.postings (map placed (g.I.IndexedRows.documents index))) c.self.view_is c.self.invariant.0)
    (subst (λ index. HaveRanks c.self.inside.lists.ranks (map placed (g.I.IndexedRows.documents index))) c.self.view_is c.self.invariant.1)))
