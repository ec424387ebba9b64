use Rattle.std.proofs.Common.{◌≡◌, ℕ, ◌+◌, ◌-◌, ◌≤◌, ◌^◌, length}
use Rattle.posting_sets.specs.Gathered.{ids_at}
use Rattle.posting_sets.proofs.numbered.make_up_to.Given as goal

abbrev pub invariant-loop-alloc : goal.invariant-loop-alloc
invariant-loop-alloc l = record {
  same : (n : ℕ) → ids_at n l.sets.items ≡ ids_at n l.initial.sets.items;
  few : length l.sets.items ≤ 2 ^ 16;
}

abbrev pub decreases-loop-alloc : goal.decreases-loop-alloc
decreases-loop-alloc l = l.at + 1 - length l.sets.items
