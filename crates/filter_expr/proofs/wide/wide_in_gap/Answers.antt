use Rattle.std.proofs.Common.{string_bytes}
use Rattle.filter_machine.specs.Held.{machine_view}
use Rattle.filter_expr.proofs.Chars.{gap_char}
use Rattle.filter_expr.proofs.wide.wide_in_gap.Goals as goal

pub returns : goal.returns
returns c = gap_char c.args.c c.args.at (string_bytes c.new.result) (machine_view c.args.machine) c.wide_in_word.result c.requires c.new.ensures.bytes c.wide_in_word.ensures
