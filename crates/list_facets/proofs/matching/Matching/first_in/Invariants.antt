use Rattle.std.proofs.Common.{◌≡◌, drop, filter}
use Rattle.doc_sets.specs.Sets.{has}
use Rattle.list_facets.specs.Hits.{ids_of}
use Rattle.list_facets.proofs.matching.Matching.first_in.Given as goal

abbrev pub invariant-loop-entry : goal.invariant-loop-entry
invariant-loop-entry l =
    filter (has l.self.ids) (ids_of (drop l.entry-index l.page)) ≡ filter (has l.self.ids) (ids_of l.page)
