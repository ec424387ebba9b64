use Rattle.std.proofs.Common.{sym, subst}
use Rattle.sorted_pages.specs.Entries.{IsIncreasing}
use Rattle.sorted_pages.proofs.SetLemmas.{increasing-drop}
use Rattle.sorted_pages.proofs.BackLemmas.{increasing-take}
use Rattle.sorted_pages.proofs.whole.parted.Goals as goal

pub returns-clause-front : goal.returns-clause-front
returns-clause-front c = subst IsIncreasing (sym c.split_at.ensures.front) (increasing-take c.args.numbers.now c.before_last-n.result c.requires)

pub returns-clause-back : goal.returns-clause-back
returns-clause-back c = subst IsIncreasing (sym c.split_at.ensures.back) (increasing-drop c.before_last-n.result c.args.numbers.now c.requires)
