use Rattle.std.proofs.Common.{◌≡◌, ◌<◌, length}
use Rattle.std.specs.List.{filter}
use Rattle.posting_sets.specs.Starts.{is_inside, starts_at}
use Rattle.posting_sets.proofs.occurrences.Occurrences.next.Given as goal

abbrev pub invariant-loop-entry : goal.invariant-loop-entry
invariant-loop-entry l = record {
  same : starts_at l.self-inside.universe.now.ids l.self-inside.lists.items l.self-inside.at l.self-inside.walked
      ≡ starts_at l.initial.self-inside.universe.now.ids l.initial.self-inside.lists.items l.initial.self-inside.at l.initial.self-inside.walked;
  at : l.self-inside.at < length l.self-inside.lists.items;
}

abbrev pub decreases-loop-entry : goal.decreases-loop-entry
decreases-loop-entry l = length (filter (is_inside l.self-inside.universe.now.ids) l.self-inside.walked)
