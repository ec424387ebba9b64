use Rattle.std.proofs.Common.{◌≡◌, map}
use Rattle.std.specs.List.{AllByRecursion}
use Rattle.doc_sets.specs.Sets.{IsIncreasing}
use Rattle.posting_sets.proofs.numbered.finished.Given as goal

abbrev pub invariant-loop-builder : goal.invariant-loop-builder
invariant-loop-builder l = record {
  same : map (λ set. set.ids) l.made.items ≡ l.yielded;
  increasing : AllByRecursion (λ set. IsIncreasing set.ids) l.made.items;
}
