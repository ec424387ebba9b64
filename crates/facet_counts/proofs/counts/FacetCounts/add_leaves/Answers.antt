use Rattle.std.proofs.Common.{◌≡◌, sym, ap, subst, map, ◌++◌, ◌∷◌, [], ◌∙◌, rules}
use Rattle.std.specs.Vec.{with_items}
use Rattle.std.proofs.lemmas.List.{with_items_is}
use Rattle.facet_counts.specs.Counting.{AreCountsOf, counter_view}
use Rattle.facet_counts.proofs.Counters.{added, one-more}
use Rattle.facet_counts.proofs.counts.FacetCounts.add_leaves.Goals as goal

pub loop-counter-preserved : goal.loop-counter-preserved
loop-counter-preserved c =
    one-more c.args.leaves.now c.loop-counter.counter-index c.deref_mut-counter-items.result.now c.loop-counter.counter-items c.counter-item.result c.add.new.self
    (search rules) c.counter-item.is c.in_ok-add.ensures c.loop-counter.invariant

pub returns : goal.returns
returns c = λ asked documents rows are h.
    let old = c.deref_mut-counter-items.result.now in
    let items : (with_items c.self.inside.counters c.loop-counter.counter-items).items ≡ c.loop-counter.counter-items = with_items_is c.self.inside.counters c.loop-counter.counter-items (search rules) in
    subst (λ counters. AreCountsOf (map counter_view counters) asked (documents ++ rows ∷ [])) (sym items)
    (added c.args.leaves.now c.loop-counter.counter-index old c.loop-counter.counter-items (search rules) c.loop-counter.invariant asked documents rows are
    (subst (λ counters. AreCountsOf counters asked documents) (sym (ap (map counter_view) c.deref_mut-counter-items.ensures.value ∙ c.self.view_is)) h))
