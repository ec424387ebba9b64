use Rattle.std.proofs.Common.{◌≡◌, ◌+◌, length}
use Rattle.std.specs.Str.Iter.{chars_rest}
use Rattle.filter_machine.specs.Machine.{new_machine}
use Rattle.filter_machine.specs.Scan.{with, gap}
use Rattle.filter_expr.specs.Limit.{outcome_at}
use Rattle.filter_expr.specs.Gives.{scanner_view}
use Rattle.filter_expr.proofs.text.scanned.Given as goal

-- the answer for all is the answer for what is left
abbrev pub invariant-loop-c : goal.invariant-loop-c
invariant-loop-c l = record {
  answer : outcome_at l.text 0 (with gap new_machine) ≡ outcome_at (chars_rest l.c-iterator) l.at (scanner_view l.scanner);
  place : l.at + length (chars_rest l.c-iterator) ≡ length l.text;
}
