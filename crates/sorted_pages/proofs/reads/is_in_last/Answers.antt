use Rattle.sorted_pages.proofs.RunLemmas.{on_true}
use Rattle.sorted_pages.proofs.WholeLemmas.{last_up, below_least, from_true}
use Rattle.sorted_pages.proofs.reads.is_in_last.Goals as goal

pub is_from-requires : goal.is_from-requires
is_from-requires c = last_up c.args.pages.now c.args.last.now c.requires

pub returns-else-is_empty-clause-below : goal.returns-else-is_empty-clause-below
returns-else-is_empty-clause-below c =
    on_true _ _ (λ e. below_least c.args.pages.now c.args.last.now c.requires c.args.least (from_true _ _ c.is_from.ensures.from e))
