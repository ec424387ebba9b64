use Rattle.std.proofs.Common.{[], ◌++◌, ◌∷◌, sym, subst, map}
use Rattle.facet_counts.specs.Counting.{AreCountsOf, counter_view}
use Rattle.facet_counts.proofs.Counters.{counter-behind}
use Rattle.facet_counts.proofs.counts.FacetCounts.new.Goals as goal

pub loop-facet-preserved : goal.loop-facet-preserved
loop-facet-preserved c =
    subst (λ counters. AreCountsOf (map counter_view counters) (c.loop-facet.yielded ++ c.in-Some.facet ∷ []) []) (sym c.in_ok-push.ensures.items)
    (counter-behind c.loop-facet.counters.items c.loop-facet.yielded c.new.result c.in-Some.facet [] c.loop-facet.invariant c.new.ensures)
