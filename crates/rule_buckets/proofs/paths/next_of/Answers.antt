use Rattle.std.proofs.Common.{List, Some, sym, ap, ◌∙◌, arith}
use Rattle.search_base.specs.Least.{least_by}
use Rattle.rule_buckets.specs.Streams.{LevelCostsView, next_cost, is_in_any, remaining_in}
use Rattle.rule_buckets.proofs.Members.{no-members}
use Rattle.rule_buckets.proofs.Streaming.{has-remaining, least-all, none-ready, next-bucket}
use Rattle.rule_buckets.proofs.paths.next_of.Goals as goal

pub take_all-requires-clause-least : goal.take_all-requires-clause-least
take_all-requires-clause-least g c =
    let least = sym (ap (least_by next_cost) c.as_slice.ensures.value) ∙ sym c.least_ahead.ensures ∙ c.in-Some.is in
    least-all c.in_ok-ready.ready.items c.in-Some.cost (Some c.in-Some.cost) least (omega arith)

pub returns-in-Some-clause-bucket : goal.returns-in-Some-clause-bucket
returns-in-Some-clause-bucket g c =
    let taken = c.in_ok-left-in-Some in
    let ready = c.in_ok-ready.ready.items in
    let least = sym (ap (least_by next_cost) c.as_slice.ensures.value) ∙ sym c.least_ahead.ensures ∙ c.in-Some.is in
    next-bucket (g.S.RuleSource.rows) c.args.query.now c.args.streams.items ready taken.left.items taken.docs.ids c.in-Some.cost
    c.in_ok-ready.ensures.ready c.in_ok-ready.ensures.same least taken.ensures.docs taken.ensures.left taken.ensures.increasing

pub returns-clause-none : goal.returns-clause-none
returns-clause-none g c =
    let ready = c.in_ok-ready.ready.items in
    let least = sym (ap (least_by next_cost) c.as_slice.ensures.value) ∙ sym c.least_ahead.ensures ∙ c.in-None.is in
    let none = none-ready (g.S.RuleSource.rows) c.args.query.now ready c.in_ok-ready.ensures.ready least in
    no-members (remaining_in c.args.streams.items) (λ d. has-remaining c.args.streams.items d ∙ sym (c.in_ok-ready.ensures.same d) ∙ ap (λ (l : List (LevelCostsView g.row.S.Denot)). is_in_any l d) none)
