use Rattle.std.proofs.Common.{◌∙◌, sym, string_bytes}
use Rattle.filter_machine.specs.Held.{machine_view}
use Rattle.filter_expr.proofs.Chars.{word_char, word_char_refused}
use Rattle.filter_expr.proofs.wide.wide_in_word.Goals as goal

pub returns-in_ok-word : goal.returns-in_ok-word
returns-in_ok-word c =
    word_char c.args.c c.args.at (string_bytes c.args.word) (string_bytes c.in_ok-word.word) (machine_view c.args.machine) c.requires (sym c.takes_text.ensures ∙ c.if-takes_text.true) c.in_ok-word.ensures

pub returns-else-takes_text : goal.returns-else-takes_text
returns-else-takes_text c =
    word_char_refused c.args.c c.args.at (string_bytes c.args.word) (machine_view c.args.machine) c.requires (sym c.takes_text.ensures ∙ c.if-takes_text.false)
