use Rattle.filter_expr.specs.Gives.{scanner_view}
use Rattle.filter_expr.proofs.Chars.{char_given}
use Rattle.filter_expr.proofs.text.feed_char.Goals as goal

pub returns-then-c-lt128 : goal.returns-then-c-lt128
returns-then-c-lt128 c = char_given c.args.c c.args.at (scanner_view c.args.scanner) c.feed.result c.if-c-lt128.true c.feed.ensures
