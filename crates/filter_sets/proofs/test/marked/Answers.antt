use Rattle.filter_sets.proofs.TestLemmas.{mark_answer}
use Rattle.filter_sets.proofs.test.marked.Goals as goal

pub returns : goal.returns
returns c = mark_answer c.args.facets.now c.args.path.0 c.args.kind c.args.all.now.ids c.marked.result c.marked.ensures
