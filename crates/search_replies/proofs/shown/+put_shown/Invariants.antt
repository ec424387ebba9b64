use Rattle.std.proofs.Common.{length}
use Rattle.search_replies.proofs.shown.+put_shown.Given as goal

-- those that still wait
abbrev pub decreases-put_shown : goal.decreases-put_shown
decreases-put_shown l = length l.line.waiting.now
