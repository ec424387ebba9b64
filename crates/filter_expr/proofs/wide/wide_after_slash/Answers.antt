use Rattle.std.proofs.Common.{string_bytes}
use Rattle.filter_machine.specs.Held.{machine_view, quote_byte}
use Rattle.filter_expr.proofs.Chars.{slash_char, quote_low}
use Rattle.filter_expr.proofs.wide.wide_after_slash.Goals as goal

pub returns : goal.returns
returns c =
    slash_char c.args.c c.args.at (quote_byte c.args.quote) (string_bytes c.args.text) (string_bytes c.in_ok-text.text) (machine_view c.args.machine) c.wide_in_quote.result
    c.requires (quote_low c.args.quote) c.in_ok-text.ensures c.wide_in_quote.ensures
