use Rattle.std.proofs.Common.{◌≡◌}
use Rattle.sorted_pages.specs.Entries.{IsIncreasing}
use Rattle.posting_list.specs.Sets.{has_passing, is_part}
use Rattle.posting_list.proofs.SetLemmas.{AreFrom}
use Rattle.posting_list.proofs.documents.is_in.Given as goal

abbrev pub invariant-loop-entry : goal.invariant-loop-entry
invariant-loop-entry l = record {
  same : has_passing (is_part l.part) l.entry-iterator l.id.0 ≡ has_passing (is_part l.part) l.list.entries l.id.0;
  up : IsIncreasing l.entry-iterator;
  from : AreFrom l.id.0 l.entry-iterator;
}
