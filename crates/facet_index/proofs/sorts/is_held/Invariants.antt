use Rattle.std.proofs.Common.{◌≡◌}
use Rattle.std.specs.List.{list_any}
use Rattle.facet_index.specs.Places.{has_document}
use Rattle.facet_index.proofs.sorts.is_held.Given as goal

abbrev pub invariant-loop-entry : goal.invariant-loop-entry
invariant-loop-entry l = list_any (λ d. has_document d l.entry-iterator) l.universe.ids ≡ list_any (λ d. has_document d l.list.entries) l.universe.ids
