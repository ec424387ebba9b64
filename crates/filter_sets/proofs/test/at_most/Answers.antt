use Rattle.std.proofs.Common.{not, int_lt, refl, rules, arith}
use Rattle.std.specs.Int.{w128}
use Rattle.std.specs.Int.RustNames.{FitsSigned}
use Rattle.std.proofs.lemmas.Grind.{common_steps}
use Rattle.std.proofs.lemmas.Int.{to_z-of_z}
use Rattle.filter_sets.proofs.TestLemmas.{wanted_answer}
use Rattle.filter_sets.proofs.NumberLemmas.{least_of_all, up_to}
use Rattle.filter_sets.proofs.test.at_most.Goals as goal

pub returns : goal.returns
returns c =
    let fits : FitsSigned w128 c.args.n.now = first_of (search rules, grind (arith, common_steps)) in
    wanted_answer c.args.facets.now c.args.path.0 least_of_all c.args.n.now _ _ refl (to_z-of_z _ c.args.n.now fits) (λ m. not (int_lt c.args.n.now m))
    c.args.all.now.ids (up_to c.args.n.now) c.numbers.result c.numbers.ensures
