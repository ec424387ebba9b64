use Rattle.filter_sets.proofs.TestLemmas.{value_answer}
use Rattle.filter_sets.proofs.test.valued.Goals as goal

pub returns : goal.returns
returns c = value_answer c.args.facets.now c.args.path.0 c.args.value.now c.args.all.now.ids c.equal.result c.equal.ensures
