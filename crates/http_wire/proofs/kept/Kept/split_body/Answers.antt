use Rattle.std.proofs.Common.{◌≡◌, ◌+◌, take, drop, ap, ◌∙◌}
use Rattle.http_wire.proofs.Lists.{body_of_front}
use Rattle.http_wire.proofs.kept.Kept.split_body.Goals as goal

pub returns-clause-body : goal.returns-clause-body
returns-clause-body c =
    let buffer : c.replace-body.result.items ≡ c.self.inside.buffer.items = ap (λ v. v.items) c.replace-body.ensures.value in
    c.drop_front.ensures
    ∙ ap (λ v. drop (c.self.inside.at + c.args.start) v)
    (c.truncate.ensures.items ∙ ap (λ v. take (c.self.inside.at + c.args.start + c.args.size) v) buffer)
    ∙ body_of_front c.self.inside.buffer.items c.self.inside.at c.args.start c.args.size
    ∙ ap (λ v. take c.args.size (drop c.args.start v)) c.self.view_is
