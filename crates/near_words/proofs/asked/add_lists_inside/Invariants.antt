use Rattle.std.proofs.Common.{◌≡◌, ◌++◌, flat_map, take}
use Rattle.near_words.specs.Inside.{inside}
use Rattle.near_words.proofs.asked.add_lists_inside.Given as goal

abbrev pub invariant-loop-list : goal.invariant-loop-list
invariant-loop-list l = l.entries.items
    ≡ l.initial.entries.items ++ flat_map (λ list. inside l.universe.ids list.now.entries) (take l.list-index l.lists)
