use Rattle.std.proofs.Common.{subst}
use Rattle.posting_sets.specs.Numbers.{rank_at, AreNumbered}
use Rattle.posting_sets.specs.Prefixes.{AreNumberedByPrefix}
use Rattle.posting_sets.proofs.OccursLemmas.{ok_of}
use Rattle.posting_sets.proofs.GatheredLemmas.{numbered_so}
use Rattle.doc_search.specs.Lists.{ListsView}
use Rattle.doc_search.proofs.lists.SearchLists.by_rank.Goals as goal

pub returns-in-Some : goal.returns-in-Some
returns-in-Some c = ok_of _ _ c.by_rank.result c.by_rank.ensures (λ rows are.
    numbered_so c.args.self.now.postings c.in-Some.places.now c.args.term.now c.in-Some.ensures.term c.in-Some.ensures.gathered c.args.universe.now.ids
    (λ place. rank_at c.args.self.now.ranks place.path.0) rows.items
    (subst (λ (lists : ListsView). AreNumberedByPrefix c.in-Some.places.now (λ place. rank_at lists.ranks place.path.0) c.args.universe.now.ids rows.items)
    c.self.view_is are))

pub returns : goal.returns
returns c = ok_of _ _ c.documents_by_rank.result c.documents_by_rank.ensures (λ rows are.
    subst (λ (lists : ListsView). AreNumbered lists.postings c.args.term.now (λ place. rank_at lists.ranks place.path.0) c.args.universe.now.ids rows.items)
    c.self.view_is are)
