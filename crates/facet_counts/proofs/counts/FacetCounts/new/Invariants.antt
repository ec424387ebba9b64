use Rattle.std.proofs.Common.{[], map}
use Rattle.facet_counts.specs.Counting.{AreCountsOf, counter_view}
use Rattle.facet_counts.proofs.counts.FacetCounts.new.Given as goal

abbrev pub invariant-loop-facet : goal.invariant-loop-facet
invariant-loop-facet l = AreCountsOf (map counter_view l.counters.items) l.yielded []
