use Rattle.std.proofs.Common.{◌≡◌, ℕ, ◌&&◌, ◌||◌}
use Rattle.doc_sets.specs.Sets.{has}
use Rattle.facet_index.specs.Places.{has_document}
use Rattle.facet_index.proofs.lists.add_places.Given as goal

abbrev pub invariant-loop-entry : goal.invariant-loop-entry
invariant-loop-entry l = (d : ℕ) → ((has_document d l.entry-iterator && has l.universe.ids d) || has l.found d)
    ≡ ((has_document d l.places.entries && has l.universe.ids d) || has l.initial.found d)
