use Rattle.std.proofs.Common.{sym, ◌∙◌}
use Rattle.posting_sets.proofs.PassLemmas.{all_from}
use Rattle.posting_sets.proofs.finder.Finder.new.Goals as goal

pub invariant_of-result : goal.invariant_of-result
invariant_of-result c = (c.iter.ensures.entries ∙ sym (all_from _), c.iter.ensures.increasing)
