use Rattle.std.proofs.Common.{◌≡◌, map, take}
use Rattle.posting_sets.proofs.finder.finders.Given as goal

abbrev pub invariant-loop-list : goal.invariant-loop-list
invariant-loop-list l = l.made.items ≡ map (λ list. list.now.entries) (take l.list-index l.lists)
