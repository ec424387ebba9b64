use Rattle.std.proofs.Common.{Some, sym, ap, ap₂, ◌∙◌, take, option_map}
use Rattle.search_base.specs.Least.{lesser, least_by}
use Rattle.search_base.proofs.LeastLemmas.{lesser-none}
use Rattle.rule_buckets.specs.Streams.{next_cost}
use Rattle.rule_buckets.proofs.Members.{least-more}
use Rattle.rule_buckets.proofs.paths.least_ahead.Goals.{in-Some, in-None}
use Rattle.rule_buckets.proofs.paths.least_ahead.Goals as goal

pub loop-stream-preserved : goal.loop-stream-preserved
loop-stream-preserved g c =
    let now = c.stream-item.result in
    let more = least-more next_cost c.args.streams.now c.loop-stream.stream-index now c.loop-stream-test.true c.stream-item.is in
    elim c.match-stream.branch [
      | in-Some w ↦ w.least-is ∙ w.lesser-least.ensures ∙ ap₂ lesser c.loop-stream.invariant (sym (sym (ap next_cost c.stream.view_is) ∙ ap (option_map (λ next. next.0)) w.in-Some.is ∙ ap (λ n. Some n) (sym w.in-Some.cost-is))) ∙ sym more
      | in-None w ↦ w.least-is ∙ c.loop-stream.invariant ∙ sym (more ∙ ap (lesser (least_by next_cost (take c.loop-stream.stream-index c.args.streams.now))) (sym (ap next_cost c.stream.view_is) ∙ ap (option_map (λ next. next.0)) w.in-None.is) ∙ lesser-none _)
    ]
