use Rattle.std.proofs.Common.{◌≡◌, ℕ, ◌||◌, take}
use Rattle.doc_sets.specs.Sets.{has}
use Rattle.posting_sets.specs.Found.{has_document}
use Rattle.posting_sets.proofs.prefix.add_row.Given as goal

abbrev pub invariant-loop-entry : goal.invariant-loop-entry
invariant-loop-entry l = (q : ℕ) → has l.builder q ≡ (has_document (take l.entry-index l.row) q || has l.initial.builder q)
