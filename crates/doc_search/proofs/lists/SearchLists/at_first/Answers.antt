use Rattle.posting_sets.proofs.GatheredLemmas.{first_so}
use Rattle.doc_search.proofs.lists.SearchLists.at_first.Goals as goal

pub returns-in-Some : goal.returns-in-Some
returns-in-Some c =
    first_so c.args.self.now.postings c.in-Some.places.now c.args.term.now c.in-Some.ensures.term c.in-Some.ensures.gathered c.args.universe.now.ids
    c.in_ok-set.set.ids c.in_ok-set.ensures
