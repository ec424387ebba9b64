use Rattle.facet_index.proofs.KeptLemmas.{kept_answer}
use Rattle.facet_index.proofs.lists.documents_of.Goals as goal

pub returns-in-Some : goal.returns-in-Some
returns-in-Some c = kept_answer c.in-Some.kept.now.ids c.args.list.now.entries c.args.universe.now.ids c.in-Some.ensures c.and.result c.and.ensures
