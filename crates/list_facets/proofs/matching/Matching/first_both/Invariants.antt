use Rattle.std.proofs.Common.{◌≡◌, filter}
use Rattle.doc_sets.specs.Sets.{has}
use Rattle.list_facets.proofs.matching.Matching.first_both.Given as goal

abbrev pub invariant-loop-id : goal.invariant-loop-id
invariant-loop-id l = filter (has l.kept.ids) l.id-iterator ≡ filter (has l.kept.ids) l.self.ids
