use Rattle.std.proofs.Common.{[], ◌∷◌, ◌++◌, List, sym, ap, subst, ◌∙◌}
use Rattle.std.proofs.lemmas.List.{nil_from_length}
use Rattle.rule_buckets.specs.Streams.{LevelCostsView}
use Rattle.rule_buckets.proofs.Streaming.{AreTaken, taken-more, taken-end}
use Rattle.rule_buckets.proofs.paths.take_all.Goals as goal

pub loop-stream-preserved : goal.loop-stream-preserved
loop-stream-preserved g c =
    let rows = g.S.RuleSource.rows in
    let all = c.into_iter-stream-iterator.result.rest.items in
    let rest = c.next.new.self.rest.items in
    let left = c.loop-stream.left.items in
    taken-more rows c.args.query.now c.args.cost all rest left c.push.new.self.items c.in-Some.stream c.loop-stream.found.ids c.take_from.new.found.ids
    (subst (λ (l : List (LevelCostsView g.row.S.Denot)). AreTaken rows c.args.query.now c.args.cost all l left c.loop-stream.found.ids) c.in-Some.ensures.steps.0 c.loop-stream.invariant)
    c.in_ok-rest.ensures.found (c.in_ok-push.ensures.items ∙ ap (λ (s : LevelCostsView g.row.S.Denot). left ++ s ∷ []) c.in_ok-rest.ensures.left)

pub returns-clause-docs : goal.returns-clause-docs
returns-clause-docs g c =
    let rest = c.loop-stream.stream-iterator.rest in
    (taken-end (g.S.RuleSource.rows) c.args.query.now c.args.cost c.into_iter-stream-iterator.result.rest.items c.args.streams.items rest.items c.loop-stream.left.items c.loop-stream.found.ids
    c.loop-stream.invariant (nil_from_length rest.items (sym rest.ok.0 ∙ c.in-None.ensures.steps.0)) c.into_iter-stream-iterator.ensures.into_iter_gives.0).0

pub returns-clause-left : goal.returns-clause-left
returns-clause-left g c =
    let rest = c.loop-stream.stream-iterator.rest in
    (taken-end (g.S.RuleSource.rows) c.args.query.now c.args.cost c.into_iter-stream-iterator.result.rest.items c.args.streams.items rest.items c.loop-stream.left.items c.loop-stream.found.ids
    c.loop-stream.invariant (nil_from_length rest.items (sym rest.ok.0 ∙ c.in-None.ensures.steps.0)) c.into_iter-stream-iterator.ensures.into_iter_gives.0).1
