use Rattle.std.proofs.Common.{◌≡◌, map, filter, subst}
use Rattle.postings.specs.Fresh.{StandsFor}
use Rattle.posting_sets.specs.Blocks.{HaveRanks}
use Rattle.posting_sets.proofs.OccursLemmas.{ok_of}
use Rattle.row_index.specs.Standing.{placed}
use Rattle.condition_graph.specs.Meets.{meets}
use Rattle.doc_sets.specs.SetView.{SetView}
use Rattle.doc_search.specs.Meeting.{AreMeeting}
use Rattle.doc_search.specs.Rows.{rows_at}
use Rattle.doc_search.proofs.MeetLemmas.{some_of}
use Rattle.doc_search.proofs.RowLemmas.{met}
use Rattle.doc_search.proofs.source.SnapshotRuleSource.at_hand.Goals as goal

pub returns : goal.returns
returns g c = ok_of _ _ c.meeting_at_hand.result c.meeting_at_hand.ensures (λ found are.
    let documents = g.I.IndexedRows.documents c.args.self.now in
    let universe = c.args.universe.now.ids in
    some_of (λ (set : SetView). AreMeeting c.self.inside.lists.postings c.self.inside.lists.ranks c.args.condition.now universe set.ids)
    (λ (set : SetView). set.ids ≡ filter (λ d. meets (rows_at documents d).places c.args.condition.now) universe) found are
    (λ (set : SetView) are. met documents c.args.condition.now universe set.ids (are (map placed documents)
    (subst (λ index. StandsFor c.self.inside.lists.postings (map placed (g.I.IndexedRows.documents index))) c.self.view_is c.self.invariant.0)
    (subst (λ index. HaveRanks c.self.inside.lists.ranks (map placed (g.I.IndexedRows.documents index))) c.self.view_is c.self.invariant.1))))
