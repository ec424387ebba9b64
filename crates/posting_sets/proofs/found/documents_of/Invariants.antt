use Rattle.std.proofs.Common.{◌≡◌, ℕ, ◌<◌, true, ◌||◌, map, length}
use Rattle.doc_sets.specs.Sets.{has, IsIncreasing}
use Rattle.posting_sets.specs.Entries.{document_of}
use Rattle.posting_sets.specs.Found.{has_document}
use Rattle.posting_sets.proofs.found.documents_of.Given as goal

abbrev pub invariant-loop-start : goal.invariant-loop-start
invariant-loop-start l = record {
  left : IsIncreasing l.left;
  increasing : IsIncreasing (map (λ id. id.0) l.ids.items);
  behind : (q start : ℕ) → has (map (λ id. id.0) l.ids.items) q ≡ true → has l.left start ≡ true → q < document_of start;
  each : (q : ℕ) → (has (map (λ id. id.0) l.ids.items) q || has_document l.left q) ≡ has_document l.initial.left q;
}

abbrev pub decreases-loop-start : goal.decreases-loop-start
decreases-loop-start l = length l.left
