use Rattle.std.proofs.Common.{◌≡◌, ◌+◌, ◌≤◌, drop, length}
use Rattle.doc_sets.specs.Sets.{IsIncreasing, union}
use Rattle.doc_sets.proofs.in_place.put_each.Given as goal

abbrev pub invariant-loop-id : goal.invariant-loop-id
invariant-loop-id l = record {
  same : union (drop l.id-index l.ids) l.bits.ids ≡ union l.ids l.initial.bits.ids;
  few : l.new ≤ l.id-index;
  count : l.new + length l.initial.bits.ids ≡ length l.bits.ids;
  limit : l.bits.limit ≡ l.initial.bits.limit;
  up : IsIncreasing l.bits.ids;
}
