use Rattle.std.proofs.Common.{◌≡◌, ℕ, ◌||◌, length}
use Rattle.doc_sets.specs.Sets.{has, IsIncreasing}
use Rattle.posting_sets.specs.Found.{has_document}
use Rattle.posting_sets.proofs.found.add_documents.Given as goal

abbrev pub invariant-loop-start : goal.invariant-loop-start
invariant-loop-start l = record {
  left : IsIncreasing l.left;
  each : (q : ℕ) → (has_document l.left q || has l.builder q) ≡ (has_document l.initial.left q || has l.initial.builder q);
}

abbrev pub decreases-loop-start : goal.decreases-loop-start
decreases-loop-start l = length l.left
