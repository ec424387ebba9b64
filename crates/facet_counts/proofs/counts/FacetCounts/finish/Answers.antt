use Rattle.std.proofs.Common.{◌≡◌, [], ◌++◌, sym, ap, ap₂, map, ◌∙◌, append-nil}
use Rattle.std.proofs.lemmas.List.{nil_from_length}
use Rattle.facet_counts.specs.Counting.{counter_view, reply_of}
use Rattle.facet_counts.proofs.Replies.{all-counted, replies-mapped}
use Rattle.facet_counts.proofs.counts.FacetCounts.finish.Goals as goal

pub loop-counter-init : goal.loop-counter-init
loop-counter-init c =
    ap₂ (λ replies counters. replies ++ map (λ counter. reply_of c.args.most (counter_view counter)) counters) c.in_ok-replies.ensures.items c.into_iter-counter-iterator.ensures.into_iter_gives.0
    ∙ replies-mapped c.args.most c.self.inside.counters.items ∙ ap (map (reply_of c.args.most)) c.self.view_is

pub returns : goal.returns
returns c = λ asked documents h.
    let done : c.loop-counter.counter-iterator.rest.items ≡ [] = nil_from_length c.loop-counter.counter-iterator.rest.items (sym c.loop-counter.counter-iterator.rest.ok.0 ∙ c.in-None.ensures.steps.0) in
    sym (append-nil c.loop-counter.replies.items) ∙ ap (λ counters. c.loop-counter.replies.items ++ map (λ counter. reply_of c.args.most (counter_view counter)) counters) (sym done)
    ∙ c.loop-counter.invariant ∙ all-counted c.args.most documents c.args.self asked h
