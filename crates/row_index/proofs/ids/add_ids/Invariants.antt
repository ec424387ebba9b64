use Rattle.std.proofs.Common.{◌≡◌, ℕ, ◌||◌, take}
use Rattle.doc_sets.specs.Sets.{has}
use Rattle.leaf_table.specs.Changes.{numbers}
use Rattle.row_index.proofs.ids.add_ids.Given as goal

abbrev pub invariant-loop-id : goal.invariant-loop-id
invariant-loop-id l = (q : ℕ) → has l.set q ≡ (has (numbers (take l.id-index l.ids)) q || has l.initial.set q)
