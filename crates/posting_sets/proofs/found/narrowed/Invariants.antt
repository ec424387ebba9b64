use Rattle.std.proofs.Common.{IfSome}
use Rattle.posting_sets.specs.Found.{IsNarrowed}
use Rattle.posting_sets.proofs.found.narrowed.Given as goal

abbrev pub invariant-loop-word : goal.invariant-loop-word
invariant-loop-word l = IfSome l.narrow (λ set. IsNarrowed l.postings l.words l.universe.ids set.ids)
