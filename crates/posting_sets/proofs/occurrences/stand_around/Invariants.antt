use Rattle.std.proofs.Common.{◌≡◌, ◌-◌, drop}
use Rattle.posting_sets.specs.Starts.{stand_beside}
use Rattle.posting_sets.proofs.occurrences.stand_around.Given as goal

abbrev pub invariant-loop-index : goal.invariant-loop-index
invariant-loop-index l = record {
  left : stand_beside l.at l.index (drop l.index l.initial.lists.items) (l.entry - l.at)
      ≡ stand_beside l.at 0 l.initial.lists.items (l.entry - l.at);
  same : l.lists.items ≡ l.initial.lists.items;
}
