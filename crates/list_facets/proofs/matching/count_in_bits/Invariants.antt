use Rattle.std.proofs.Common.{◌≡◌, ◌+◌, ◌≤◌, length, drop, filter}
use Rattle.doc_sets.specs.Sets.{has}
use Rattle.list_facets.specs.Hits.{ids_of}
use Rattle.list_facets.proofs.matching.count_in_bits.Given as goal

abbrev pub invariant-loop-entry : goal.invariant-loop-entry
invariant-loop-entry l = record {
  told : l.count + length (filter (has l.bits.ids) (ids_of (drop l.entry-index l.page))) ≡ length (filter (has l.bits.ids) (ids_of l.page));
  few : l.count ≤ l.entry-index;
}
