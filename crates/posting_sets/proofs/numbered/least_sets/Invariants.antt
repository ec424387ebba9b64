use Rattle.std.proofs.Common.{◌≡◌, ℕ, length}
use Rattle.std.specs.List.{list_any}
use Rattle.doc_sets.specs.Sets.{has}
use Rattle.posting_sets.specs.Gathered.{AreLeast, NumbersBelow}
use Rattle.posting_sets.proofs.numbered.least_sets.Given as goal

abbrev pub invariant-loop-builder : goal.invariant-loop-builder
invariant-loop-builder l = record {
  rows : AreLeast l.yielded l.rows.items;
  below : NumbersBelow (length l.yielded) l.rows.items;
  seen : (id : ℕ) → has l.seen.ids id ≡ list_any (λ set. has set id) l.yielded;
  number : l.number ≡ length l.yielded;
}
