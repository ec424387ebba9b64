use Rattle.std.proofs.Common.{◌≡◌, ℕ, take}
use Rattle.std.specs.List.{list_any}
use Rattle.doc_sets.specs.Sets.{has}
use Rattle.rule_buckets.proofs.matching.all_of.Given as goal

-- the documents of the levels so far
abbrev pub invariant-loop-docs : goal.invariant-loop-docs
invariant-loop-docs l = (d : ℕ) → has l.all.ids d ≡ list_any (λ s. has s.ids d) (take l.docs-index l.levels)
