use Rattle.std.proofs.Common.{◌≡◌, ℕ, ◌||◌}
use Rattle.std.specs.List.{list_any}
use Rattle.sorted_pages.specs.Entries.{has}
use Rattle.postings.specs.Prefixes.{rows_left}
use Rattle.posting_sets.specs.Prefixes.{in_rows}
use Rattle.posting_sets.proofs.prefix.PrefixPlaces.new.Given as goal

abbrev pub invariant-loop-word : goal.invariant-loop-word
invariant-loop-word l = record {
  prefix : l.places.prefix ≡ l.prefix;
  each : (entry : ℕ) → (in_rows l.places entry || list_any (λ row. has row.1 entry) (rows_left l._word-iterator))
      ≡ list_any (λ row. has row.1 entry) (rows_left l.initial._word-iterator);
}
