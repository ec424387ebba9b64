use Rattle.std.proofs.Common.{◌≡◌, ℕ, sym, ◌∙◌}
use Rattle.std.proofs.lemmas.List.{nil_from_length}
use Rattle.rule_buckets.specs.Streams.{LevelCostsView, IsReady, is_member}
use Rattle.rule_buckets.proofs.Members.{told}
use Rattle.rule_buckets.proofs.Streaming.{ahead-more, ahead-end}
use Rattle.rule_buckets.proofs.paths.look_ahead_all.Goals as goal

pub loop-stream-preserved-in-Continue-branch-4 : goal.loop-stream-preserved-in-Continue-branch-4
loop-stream-preserved-in-Continue-branch-4 g c =
    let rows = g.S.RuleSource.rows in
    let q = c.args.query.now in
    ahead-more rows q c.next.new.self.rest.items c.loop-stream.ready.items c.push.new.self.items c.into_iter-stream-iterator.result.rest.items
    c.loop-stream.stream-iterator.rest.items c.in-Some.stream c.in-Some-2.stream c.loop-stream.invariant.0 c.loop-stream.invariant.1 c.in-Some.ensures.steps.0
    (told (IsReady rows q) c.in_ok-stream.field-0 c.in-Some-2.stream c.in_ok-stream.ensures.ready c.in-Some-2.is)
    (told (λ (ahead : LevelCostsView g.row.S.Denot). (d : ℕ) → is_member ahead d ≡ is_member c.in-Some.stream d) c.in_ok-stream.field-0 c.in-Some-2.stream c.in_ok-stream.ensures.same c.in-Some-2.is)
    c.loop-stream.invariant.2 c.in_ok-push.ensures.items

pub returns-clause-same : goal.returns-clause-same
returns-clause-same g c =
    let rest = c.loop-stream.stream-iterator.rest in
    ahead-end c.loop-stream.ready.items rest.items c.into_iter-stream-iterator.result.rest.items c.args.streams.items c.loop-stream.invariant.2
    (nil_from_length rest.items (sym rest.ok.0 ∙ c.in-None.ensures.steps.0)) c.into_iter-stream-iterator.ensures.into_iter_gives.0
