use Rattle.std.proofs.Common.{◌||◌, ap, ◌∙◌}
use Rattle.rule_buckets.specs.Streams.{is_member, is_in_any}
use Rattle.rule_buckets.proofs.Members.{any-pushed}
use Rattle.rule_buckets.proofs.paths.push_level.Goals as goal

pub returns-in_ok-push-clause-docs : goal.returns-in_ok-push-clause-docs
returns-in_ok-push-clause-docs g c = λ d.
    any-pushed (λ s. is_member s d) c.args.streams.now.items c.push.new.self.items c.in_ok-stream.stream c.in_ok-push.ensures.items
    ∙ ap (λ b. is_in_any c.args.streams.now.items d || b) (c.in_ok-stream.ensures.docs d)
