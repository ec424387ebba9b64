use Rattle.std.proofs.Common.{◌≡◌, ℕ, ◌||◌}
use Rattle.doc_sets.specs.Sets.{has}
use Rattle.list_facets.proofs.matching.bits_of.Given as goal

abbrev pub invariant-loop-id : goal.invariant-loop-id
invariant-loop-id l = (d : ℕ) → (has l.id-iterator d || has l.bits.ids d) ≡ has l.set.ids d
