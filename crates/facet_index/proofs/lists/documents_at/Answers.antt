use Rattle.std.proofs.Common.{◌∙◌}
use Rattle.postings.specs.Dictionary.{list_at}
use Rattle.facet_index.proofs.KeyLemmas.{none_found}
use Rattle.facet_index.proofs.lists.documents_at.Goals as goal

pub returns-in-None : goal.returns-in-None
returns-in-None c = c.new.ensures ∙ none_found (list_at c.args.key.now c.args.keys.now) c.args.universe.now.ids c.in-None.ensures
