use Rattle.std.proofs.Common.{◌≡◌, ℕ, ◌&&◌, ◌||◌, take}
use Rattle.std.specs.List.{list_any}
use Rattle.doc_sets.specs.Sets.{has}
use Rattle.posting_sets.specs.Found.{has_document}
use Rattle.posting_sets.proofs.prefix.add_lists.Given as goal

abbrev pub invariant-loop-list : goal.invariant-loop-list
invariant-loop-list l = (q : ℕ) → (has l.universe.ids q && has l.builder q)
    ≡ (has l.universe.ids q && (list_any (λ list. has_document list.now.entries q) (take l.list-index l.lists) || has l.initial.builder q))
