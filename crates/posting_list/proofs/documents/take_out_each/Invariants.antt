use Rattle.std.proofs.Common.{◌≡◌, ℕ, not, ◌&&◌, ◌||◌, take}
use Rattle.doc_sets.specs.Sets.{has}
use Rattle.posting_list.specs.Sets.{has_passing, is_part}
use Rattle.posting_list.proofs.documents.take_out_each.Given as goal

abbrev pub invariant-loop-entry : goal.invariant-loop-entry
invariant-loop-entry l = (id : ℕ) → has l.set.ids id ≡ (has l.initial.set.ids id
    && (not (has_passing (is_part l.part) (take l.entry-index l.gone) id) || has_passing (is_part l.part) l.list.entries id))
