use Rattle.std.proofs.lemmas.Int.{to_z-of_z}
use Rattle.filter_sets.proofs.TestLemmas.{number_answer, between_answer}
use Rattle.filter_sets.proofs.test.numbers.Goals as goal

pub returns-in-Some : goal.returns-in-Some
returns-in-Some c =
    number_answer c.args.facets.now c.args.path.0 c.args.low c.args.high _ _ (to_z-of_z _ c.args.low c.ranges.low) (to_z-of_z _ c.args.high c.ranges.high)
    c.args.all.now.ids c.in_ok-docs.field-0 c.in-Some.docs c.in-Some.is c.in_ok-docs.ensures

pub returns-in-None : goal.returns-in-None
returns-in-None c =
    between_answer c.args.facets.now c.args.path.0 c.args.low c.args.high _ _ (to_z-of_z _ c.args.low c.ranges.low) (to_z-of_z _ c.args.high c.ranges.high)
    c.args.all.now.ids c.between.result c.between.ensures
