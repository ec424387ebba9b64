use Rattle.std.proofs.Common.{◌≡◌, ◌≤◌, length, take, map, arith, refl}
use Rattle.http_wire.specs.Judge.{line_feeds}
use Rattle.http_wire.specs.Fields.{pair_of, verdict_of}
use Rattle.httparse.specs.Spans.{header_bytes}
use Rattle.http_wire.proofs.Verdicts.{judged, method_text, target_text}
use Rattle.http_wire.proofs.judge.judge.Goals as goal

pub text_at-requires-clause-text : goal.text_at-requires-clause-text
text_at-requires-clause-text c =
    method_text c.args.head.now c.parse_request.new.headers c.in-Ok-Complete.found (rw c.in-Ok-Complete.field-0-is at c.in-Ok-Complete.ensures.complete)

pub text_at-requires-in-Ok-Complete-clause-text : goal.text_at-requires-in-Ok-Complete-clause-text
text_at-requires-in-Ok-Complete-clause-text c =
    target_text c.args.head.now c.parse_request.new.headers c.in-Ok-Complete.found (rw c.in-Ok-Complete.field-0-is at c.in-Ok-Complete.ensures.complete)

pub returns-in_ok-fields-in-Ok-Complete : goal.returns-in_ok-fields-in-Ok-Complete
returns-in_ok-fields-in-Ok-Complete c =
    let few : line_feeds c.args.head.now ≤ 66 = omega (arith, c.count_line_feeds-line_feeds.ensures) in
    let room : length c.parse_request.new.headers ≡ 64 = omega arith in
    let gathered : map pair_of c.deref.result.now ≡ map (header_bytes c.args.head.now) (take c.in-Ok-Complete.found.headers c.parse_request.new.headers) =
    rw c.deref.ensures.value c.in_ok-fields-in-Ok-Complete.ensures in
    judged c.args.head.now c.parse_request.new.headers c.in-Ok-Complete.found c.deref.result.now
    (record { method = c.text_at.result; target = c.text_at-in-Ok-Complete.result; minor = c.in-Ok-Complete.found.version })
    (verdict_of c.rule.result) few room (rw c.in-Ok-Complete.field-0-is at c.in-Ok-Complete.ensures.complete) c.text_at.ensures c.text_at-in-Ok-Complete.ensures refl
    gathered
    c.rule.ensures
