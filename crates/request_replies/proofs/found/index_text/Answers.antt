use Rattle.request_replies.proofs.PrintLemmas.{index_printed}
use Rattle.request_replies.proofs.found.index_text.Goals as goal

pub returns-in_ok-format-in-Some : goal.returns-in_ok-format-in-Some
returns-in_ok-format-in-Some c = λ rest. rw c.in-Some.is (index_printed c.in-Some.uid.now _ _ rest c.in_ok-uid-in-Some.ensures c.in_ok-format-in-Some.ensures.ok)
