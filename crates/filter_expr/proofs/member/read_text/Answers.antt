use Rattle.std.proofs.Common.{◌≤◌, length, arith}
use Rattle.filter_expr.proofs.Parses.{syntax_place, deep_place}
use Rattle.filter_expr.proofs.member.read_text.Goals as goal

pub overflow_cast-result : goal.overflow_cast-result
overflow_cast-result c =
    let text = c.args.text.now in
    let place = c.in-Err-Syntax.place in
    let within : place ≤ length text = syntax_place text place (rw c.in-Err-Syntax.field-0-is at c.in-Err-Syntax.ensures) in
    let short = c.if-text-gt-MOST_BYTES.false in
    omega arith

pub overflow_cast-result-in-Err-TooDeep : goal.overflow_cast-result-in-Err-TooDeep
overflow_cast-result-in-Err-TooDeep c =
    let text = c.args.text.now in
    let place = c.in-Err-TooDeep.place in
    let within : place ≤ length text = deep_place text place (rw c.in-Err-TooDeep.field-0-is at c.in-Err-TooDeep.ensures) in
    let short = c.if-text-gt-MOST_BYTES.false in
    omega arith
