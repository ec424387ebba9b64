use Rattle.std.proofs.Common.{ap, arith, inr, true, false}
use Rattle.std.specs.Io.KnownBytes.{prepend_known}
use Rattle.http_wire.specs.Wire.{request_of}
use Rattle.search_server.proofs.Turning.{turn_replied, turn_put_off, turn_cut}
use Rattle.search_server.proofs.turn.serve_one.Goals as goal

pub returns-in-Err-answer-clause-turn : goal.returns-in-Err-answer-clause-turn
returns-in-Err-answer-clause-turn g c = (
  record {
    event = record { request = request_of c.in-Ok.wire; starved = c.answer.ensures.step.0 };
    taken = record {
      takes = c.in-Ok.ensures.request;
      fetched = omega (arith, c.answer.ensures.fetched);
      opens = c.answer.ensures.step.2;
      few = c.answer.ensures.few;
    };
    told = c.read_request.ensures.told;
    crash = c.in-Err-answer.ensures.crash;
  },
  c.in-Err-answer.ensures.cause,
)

pub returns-in-Err-write_reply-clause-turn : goal.returns-in-Err-write_reply-clause-turn
returns-in-Err-write_reply-clause-turn g c = (
  turn_cut c.args.left _ _ (request_of c.in-Ok.wire) c.in-Ok-answer.field-0.reply c.says_close.result c.in-Ok-answer.field-0.follows _ _ c.in-Ok-answer.ensures.step
      (record { fetched = omega (arith, c.answer.ensures.fetched); opened = c.answer.ensures.few })
      c.in-Ok.ensures.request (ap (prepend_known c.read_request.new.kept) c.write_reply.ensures.left)
      (record { same = c.read_request.ensures.told; says_is = c.says_close.ensures })
      c.in-Err-write_reply.ensures.err,
  omega (arith, c.in-Err-write_reply.ensures.cause.failed, c.read_request.ensures.write_faults),
)

pub returns-in-Err-follow-clause-turn : goal.returns-in-Err-follow-clause-turn
returns-in-Err-follow-clause-turn g c =
    turn_put_off c.args.left _ _ (request_of c.in-Ok.wire) c.in-Ok-answer.field-0.reply c.says_close.result c.in-Ok-answer.field-0.follows c.answer.new.self.machine _ _ c.in-Ok-answer.ensures.step
    (record { fetched = omega (arith, c.answer.ensures.fetched, c.follow.ensures.fetched); opened = c.answer.ensures.few })
    c.in-Ok.ensures.request (ap (prepend_known c.read_request.new.kept) c.write_reply.ensures.left)
    (record { same = c.read_request.ensures.told; says_is = c.says_close.ensures })
    c.in-Ok-write_reply.ensures.ok c.in-Err-follow.ensures.stays c.in-Err-follow.ensures.waits

pub returns-then-closes-clause-turn : goal.returns-then-closes-clause-turn
returns-then-closes-clause-turn g c =
    turn_replied c.args.left _ _ (request_of c.in-Ok.wire) c.in-Ok-answer.field-0.reply c.says_close.result true c.in-Ok-answer.field-0.follows c.answer.new.self.machine _ _ c.in-Ok-answer.ensures.step
    (record { fetched = omega (arith, c.answer.ensures.fetched, c.follow.ensures.fetched); opened = c.answer.ensures.few })
    c.in-Ok.ensures.request (ap (prepend_known c.read_request.new.kept) c.write_reply.ensures.left)
    (record { same = c.read_request.ensures.told; says_is = c.says_close.ensures })
    c.in-Ok-write_reply.ensures.ok c.in-Ok-follow.ensures.ran c.if-closes.true

pub returns-clause-turn : goal.returns-clause-turn
returns-clause-turn g c =
    turn_replied c.args.left _ _ (request_of c.in-Ok.wire) c.in-Ok-answer.field-0.reply c.says_close.result false c.in-Ok-answer.field-0.follows c.answer.new.self.machine _ _ c.in-Ok-answer.ensures.step
    (record { fetched = omega (arith, c.answer.ensures.fetched, c.follow.ensures.fetched); opened = c.answer.ensures.few })
    c.in-Ok.ensures.request (ap (prepend_known c.read_request.new.kept) c.write_reply.ensures.left)
    (record { same = c.read_request.ensures.told; says_is = c.says_close.ensures })
    c.in-Ok-write_reply.ensures.ok c.in-Ok-follow.ensures.ran c.if-closes.false

pub returns-in-Err-follow-clause-durable : goal.returns-in-Err-follow-clause-durable
returns-in-Err-follow-clause-durable g c = inr (c.follow.ensures.durable _ _ c.in-Ok-answer.ensures.durable)

pub returns-then-closes-clause-durable : goal.returns-then-closes-clause-durable
returns-then-closes-clause-durable g c = inr (c.follow.ensures.durable _ _ c.in-Ok-answer.ensures.durable)

pub returns-clause-durable : goal.returns-clause-durable
returns-clause-durable g c = inr (c.follow.ensures.durable _ _ c.in-Ok-answer.ensures.durable)
