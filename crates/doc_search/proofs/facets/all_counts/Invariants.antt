use Rattle.std.proofs.Common.{◌≡◌, ◌++◌, map}
use Rattle.facet_counts.specs.Counts.{counted}
use Rattle.doc_search.specs.Rows.{rows_at}
use Rattle.doc_search.proofs.facets.all_counts.Given as goal

abbrev pub invariant-loop-facet : goal.invariant-loop-facet
invariant-loop-facet l =
    let count = counted l.most (map (rows_at l.documents.documents) l.matching.ids) in
    l.replies.items ++ map count l.facet-iterator.rest.items ≡ map count l.fn.asked.attributes.items
