use Rattle.std.proofs.Common.{not, int_lt, refl, rules, arith}
use Rattle.std.specs.Int.{w128}
use Rattle.std.specs.Int.RustNames.{FitsSigned}
use Rattle.std.proofs.lemmas.Grind.{common_steps}
use Rattle.std.proofs.lemmas.Int.{to_z-of_z}
use Rattle.filter_sets.proofs.TestLemmas.{wanted_answer}
use Rattle.filter_sets.proofs.NumberLemmas.{greatest_of_all, from_on}
use Rattle.filter_sets.proofs.test.at_least.Goals as goal

pub returns : goal.returns
returns c =
    let fits : FitsSigned w128 c.args.n.now = first_of (search rules, grind (arith, common_steps)) in
    wanted_answer c.args.facets.now c.args.path.0 c.args.n.now greatest_of_all _ _ (to_z-of_z _ c.args.n.now fits) refl (λ m. not (int_lt m c.args.n.now))
    c.args.all.now.ids (from_on c.args.n.now) c.numbers.result c.numbers.ensures
