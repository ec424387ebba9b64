use Rattle.index_settings.proofs.Ordered.{in_order_none}
use Rattle.index_settings.proofs.synonyms.synonyms_of.Goals as goal

pub returns-in_default-clause-in_order : goal.returns-in_default-clause-in_order
returns-in_default-clause-in_order c = rw c.new.ensures.items in_order_none
