use Rattle.std.proofs.Common.{◌≡◌, ℕ, ◌||◌}
use Rattle.doc_sets.specs.Sets.{has}
use Rattle.posting_sets.specs.Found.{has_document}
use Rattle.posting_sets.proofs.found.add_entries.Given as goal

abbrev pub invariant-loop-entry : goal.invariant-loop-entry
invariant-loop-entry l = (q : ℕ) → (has_document l.entry-iterator q || has l.builder q) ≡ (has_document l.initial.entry-iterator q || has l.initial.builder q)
