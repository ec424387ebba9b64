use Rattle.std.proofs.Common.{◌≡◌, ℕ, ◌||◌}
use Rattle.doc_sets.specs.Sets.{has}
use Rattle.posting_list.specs.Sets.{has_passing, is_part}
use Rattle.posting_list.proofs.documents.documents_of.Given as goal

abbrev pub invariant-loop-entry : goal.invariant-loop-entry
invariant-loop-entry l = (id : ℕ) → (has_passing (is_part l.part) l.entry-iterator id || has l.builder id) ≡ has_passing (is_part l.part) l.list.entries id
