use Rattle.posting_sets.proofs.OccursLemmas.{ok_of}
use Rattle.posting_sets.proofs.GatheredLemmas.{occurring_so}
use Rattle.doc_search.proofs.lists.SearchLists.documents.Goals as goal

pub returns-in-Some : goal.returns-in-Some
returns-in-Some c = ok_of _ _ c.documents.result c.documents.ensures (λ set are.
    occurring_so c.args.self.now.postings c.in-Some.places.now c.args.term.now c.in-Some.ensures.term c.in-Some.ensures.gathered c.args.universe.now.ids set.ids are)
