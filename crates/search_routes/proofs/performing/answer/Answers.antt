use Rattle.http_wire.specs.Wire.{request_of}
use Rattle.search_routes.proofs.performing.answer.Goals as goal

pub returns-in-Ok-clause-answered : goal.returns-in-Ok-clause-answered
returns-in-Ok-clause-answered g c = c.perform.ensures.answered (request_of c.args.wire) c.in-Ok.ensures.call

pub returns-in-Ok-clause-fetched : goal.returns-in-Ok-clause-fetched
returns-in-Ok-clause-fetched g c = c.perform.ensures.needed (request_of c.args.wire) c.in-Ok.ensures.call

pub returns-in-Ok-clause-few : goal.returns-in-Ok-clause-few
returns-in-Ok-clause-few g c = c.perform.ensures.few_for (request_of c.args.wire) c.in-Ok.ensures.call
