use Rattle.std.proofs.Common.{◌≡◌, ℕ, ◌&&◌, ◌||◌, ◌≤◌, ◌^◌, length, take}
use Rattle.std.specs.List.{list_any}
use Rattle.doc_sets.specs.Sets.{has}
use Rattle.posting_sets.specs.Gathered.{is_numbered, ids_at}
use Rattle.posting_sets.proofs.prefix.add_numbers_of_lists.Given as goal

abbrev pub invariant-loop-list : goal.invariant-loop-list
invariant-loop-list l = record {
  each : (n q : ℕ) → has (ids_at n l.sets.items) q
      ≡ (list_any (λ list. has l.universe.ids q && list_any (is_numbered l.number n q) list.now.entries) (take l.list-index l.lists) || has (ids_at n l.initial.sets.items) q);
  few : length l.sets.items ≤ 2 ^ 16;
}
