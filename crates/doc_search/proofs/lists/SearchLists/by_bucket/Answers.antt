use Rattle.std.proofs.Common.{Some}
use Rattle.search_base.specs.Bucket.{bucket_of}
use Rattle.posting_sets.proofs.OccursLemmas.{ok_of}
use Rattle.posting_sets.proofs.GatheredLemmas.{numbered_so}
use Rattle.doc_search.proofs.lists.SearchLists.by_bucket.Goals as goal

pub returns-in-Some : goal.returns-in-Some
returns-in-Some c = ok_of _ _ c.by_bucket.result c.by_bucket.ensures (λ rows are.
    numbered_so c.args.self.now.postings c.in-Some.places.now c.args.term.now c.in-Some.ensures.term c.in-Some.ensures.gathered c.args.universe.now.ids
    (λ place. Some (bucket_of place.position)) rows.items are)
