use Rattle.std.proofs.Common.{refl}
use Rattle.http_wire.specs.Reply.{reply_head}
use Rattle.std.specs.Fmt.{digits}
use Rattle.http_wire.proofs.refusal.not_implemented.Goals as goal

pub returns : goal.returns
unfolding reply_head digits
returns c = refl
