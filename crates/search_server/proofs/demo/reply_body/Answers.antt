use Rattle.std.proofs.Common.{ap, sym, ◌∙◌}
use Rattle.http_wire.specs.Sent.{status_of, body_of}
use Rattle.http_wire.specs.Wire.{request_of}
use Rattle.search_server.proofs.Replying.{made}
use Rattle.search_server.proofs.demo.reply_body.Goals as goal

pub returns-in-Made-clause-body : goal.returns-in-Made-clause-body
returns-in-Made-clause-body g c =
    sym (ap body_of c.in-Made.is)
    ∙ (made _ _ (request_of c.args.wire) c.perform.result (c.perform.ensures.answered (request_of c.args.wire) c.in_ok-call.ensures.call)
    (λ e. c.if-status-ne-NO_MEMORY.true (sym (ap status_of c.in-Made.is) ∙ e))).0

pub returns-in-Made-clause-state : goal.returns-in-Made-clause-state
returns-in-Made-clause-state g c =
    (made _ _ (request_of c.args.wire) c.perform.result (c.perform.ensures.answered (request_of c.args.wire) c.in_ok-call.ensures.call)
    (λ e. c.if-status-ne-NO_MEMORY.true (sym (ap status_of c.in-Made.is) ∙ e))).1
