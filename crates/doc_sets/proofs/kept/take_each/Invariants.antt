use Rattle.std.proofs.Common.{◌≡◌, ◌+◌, ◌≤◌, drop, length}
use Rattle.doc_sets.specs.Sets.{IsIncreasing, difference}
use Rattle.doc_sets.proofs.kept.take_each.Given as goal

abbrev pub invariant-loop-id : goal.invariant-loop-id
invariant-loop-id l = record {
  same : difference l.bits.ids (drop l.id-index l.ids) ≡ difference l.initial.bits.ids l.ids;
  few : l.taken ≤ l.id-index;
  count : l.taken + length l.bits.ids ≡ length l.initial.bits.ids;
  up : IsIncreasing l.bits.ids;
}
