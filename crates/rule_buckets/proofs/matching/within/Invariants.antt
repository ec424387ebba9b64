use Rattle.std.proofs.Common.{◌≡◌, map, take}
use Rattle.doc_sets.specs.Sets.{intersection}
use Rattle.rule_buckets.proofs.matching.within.Given as goal

-- the documents of the levels so far
abbrev pub invariant-loop-docs : goal.invariant-loop-docs
invariant-loop-docs l = map (λ s. s.ids) l.sets.items ≡ map (λ s. intersection s.ids l.universe.ids) (take l.docs-index l.levels)
