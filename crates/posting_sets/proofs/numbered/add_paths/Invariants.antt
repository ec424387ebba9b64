use Rattle.std.proofs.Common.{◌≡◌, ℕ, ◌||◌, ◌≤◌, ◌^◌, length}
use Rattle.std.specs.List.{filter, list_any}
use Rattle.doc_sets.specs.Sets.{has}
use Rattle.posting_sets.specs.Starts.{is_inside}
use Rattle.posting_sets.specs.Gathered.{is_ranked, ids_at}
use Rattle.posting_sets.proofs.RankLemmas.{is_up_to}
use Rattle.posting_sets.proofs.numbered.add_paths.Given as goal

abbrev pub invariant-loop-path : goal.invariant-loop-path
invariant-loop-path l = record {
  each : (n q : ℕ) → has (ids_at n l.sets.items) q
      ≡ (list_any (is_up_to (is_ranked l.ranks n q) l.path) (filter (is_inside l.universe.ids) l.list.entries) || has (ids_at n l.initial.sets.items) q);
  few : length l.sets.items ≤ 2 ^ 16;
}
