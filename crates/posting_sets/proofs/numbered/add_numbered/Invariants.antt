use Rattle.std.proofs.Common.{◌≡◌, ℕ, ◌||◌, ◌≤◌, ◌^◌, length}
use Rattle.std.specs.List.{list_any}
use Rattle.doc_sets.specs.Sets.{has}
use Rattle.posting_sets.specs.Gathered.{is_numbered, ids_at}
use Rattle.posting_sets.proofs.numbered.add_numbered.Given as goal

abbrev pub invariant-loop-start : goal.invariant-loop-start
invariant-loop-start l = record {
  each : (n q : ℕ) → (list_any (is_numbered l.number n q) l.left || has (ids_at n l.sets.items) q)
      ≡ (list_any (is_numbered l.number n q) l.initial.left || has (ids_at n l.initial.sets.items) q);
  few : length l.sets.items ≤ 2 ^ 16;
}

abbrev pub decreases-loop-start : goal.decreases-loop-start
decreases-loop-start l = length l.left
