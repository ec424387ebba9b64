use Rattle.std.proofs.Common.{◌≡◌, ◌++◌, map}
use Rattle.facet_counts.specs.Counting.{reply_of, counter_view}
use Rattle.facet_counts.proofs.counts.FacetCounts.finish.Given as goal

abbrev pub invariant-loop-counter : goal.invariant-loop-counter
invariant-loop-counter l = l.replies.items ++ map (λ counter. reply_of l.most (counter_view counter)) l.counter-iterator.rest.items ≡ map (reply_of l.most) l.fn.self
