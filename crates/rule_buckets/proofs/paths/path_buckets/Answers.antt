use Rattle.std.proofs.Common.{List, sym, ap, ◌∙◌}
use Rattle.std.proofs.lemmas.List.{nil_from_length}
use Rattle.std.specs.List.{slice_get}
use Rattle.doc_sets.specs.SetView.{SetView}
use Rattle.rule_buckets.proofs.Members.{first-left}
use Rattle.rule_buckets.proofs.Streaming.{same-remaining, pushed-more}
use Rattle.rule_buckets.proofs.paths.path_buckets.Goals as goal

pub push_level-requires-clause-docs : goal.push_level-requires-clause-docs
push_level-requires-clause-docs g c =
    let all = c.into_iter-docs-iterator.result.rest.items in
    let first = first-left c.loop-docs.level all c.next.new.self.rest.items c.in-Some.docs (sym c.in-Some.ensures.steps.0 ∙ c.loop-docs.invariant.1) in
    c.requires.levels c.loop-docs.level c.in-Some.docs (ap (λ (l : List SetView). slice_get l c.loop-docs.level) (sym c.into_iter-docs-iterator.ensures.into_iter_gives.0) ∙ first.0)

pub loop-docs-preserved : goal.loop-docs-preserved
loop-docs-preserved g c =
    let all = c.into_iter-docs-iterator.result.rest.items in
    let first = first-left c.loop-docs.level all c.next.new.self.rest.items c.in-Some.docs (sym c.in-Some.ensures.steps.0 ∙ c.loop-docs.invariant.1) in (
      c.in_ok-push_level.ensures.streams,
      sym first.1,
      pushed-more c.loop-docs.streams.items c.push_level.new.streams.items c.loop-docs.docs-iterator.rest.items c.next.new.self.rest.items all c.in-Some.docs
          c.loop-docs.invariant.2 c.in-Some.ensures.steps.0 c.in_ok-push_level.ensures.docs,
    )

pub returns-clause-docs : goal.returns-clause-docs
returns-clause-docs g c =
    let rest = c.loop-docs.docs-iterator.rest in
    same-remaining c.loop-docs.streams.items rest.items c.into_iter-docs-iterator.result.rest.items c.args.levels.items c.loop-docs.invariant.2
    (nil_from_length rest.items (sym rest.ok.0 ∙ c.in-None.ensures.steps.0)) c.into_iter-docs-iterator.ensures.into_iter_gives.0
