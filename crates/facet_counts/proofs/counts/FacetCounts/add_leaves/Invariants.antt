use Rattle.facet_counts.proofs.Counters.{HasAdded}
use Rattle.facet_counts.proofs.counts.FacetCounts.add_leaves.Given as goal

abbrev pub invariant-loop-counter : goal.invariant-loop-counter
invariant-loop-counter l = HasAdded l.leaves l.counter-index l.initial.counter-items l.counter-items
