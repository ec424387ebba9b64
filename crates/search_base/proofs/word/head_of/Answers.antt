use Rattle.std.proofs.Common.{arith}
use Rattle.search_base.proofs.HeadLemmas.{head-sum}
use Rattle.search_base.proofs.word.head_of.Goals as goal

pub returns-clause-head : goal.returns-clause-head
returns-clause-head c = let sum = head-sum c.args.text.now in grind arith
