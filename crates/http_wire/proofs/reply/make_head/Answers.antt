use Rattle.std.proofs.Common.{◌∙◌, ap}
use Rattle.http_wire.specs.Reply.{reply_head}
use Rattle.http_wire.proofs.reply.make_head.Goals as goal

pub returns : goal.returns
unfolding reply_head
returns c = ap (λ v. v.items) c.into_bytes.ensures.value ∙ (rw c.close_text-close.ensures at c.in_ok-text.ensures.ok)
