use Rattle.std.proofs.Common.{ap, ◌∙◌}
use Rattle.std.specs.Str.Iter.{chars_rest}
use Rattle.filter_machine.specs.Machine.{new_machine}
use Rattle.filter_machine.specs.Scan.{with, gap}
use Rattle.filter_expr.specs.Limit.{outcome_at}
use Rattle.filter_expr.specs.Gives.{scanner_view}
use Rattle.filter_expr.proofs.Chars.{same_fault}
use Rattle.filter_expr.proofs.text.scanned.Goals as goal

pub returns-in-Err-clause-answer : goal.returns-in-Err-clause-answer
returns-in-Err-clause-answer c =
    same_fault (outcome_at c.args.text.now 0 (with gap new_machine)) _ c.in-Err.fault
    (c.loop-c.invariant.answer ∙ ap (λ us. outcome_at us c.loop-c.at (scanner_view c.loop-c.scanner)) c.in-Some.ensures.steps.0)
    (c.in-Err.ensures (chars_rest c.next.new.self))
