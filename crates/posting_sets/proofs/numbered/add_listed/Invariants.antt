use Rattle.std.proofs.Common.{◌≡◌, ℕ, ◌||◌, ◌≤◌, ◌^◌, length}
use Rattle.std.specs.List.{filter, list_any}
use Rattle.doc_sets.specs.Sets.{has}
use Rattle.posting_sets.specs.Starts.{is_inside}
use Rattle.posting_sets.specs.Gathered.{is_numbered, ids_at}
use Rattle.posting_sets.proofs.numbered.add_listed.Given as goal

abbrev pub invariant-loop-entry : goal.invariant-loop-entry
invariant-loop-entry l = record {
  each : (n q : ℕ) → (list_any (is_numbered l.number n q) (filter (is_inside l.universe.ids) l.entry-iterator) || has (ids_at n l.sets.items) q)
      ≡ (list_any (is_numbered l.number n q) (filter (is_inside l.universe.ids) l.initial.entry-iterator) || has (ids_at n l.initial.sets.items) q);
  few : length l.sets.items ≤ 2 ^ 16;
}
