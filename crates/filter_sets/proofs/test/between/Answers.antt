use Rattle.std.proofs.Common.{not, ◌&&◌, int_lt, refl, rules, arith}
use Rattle.std.specs.Int.{w128}
use Rattle.std.specs.Int.RustNames.{FitsSigned}
use Rattle.std.proofs.lemmas.Grind.{common_steps}
use Rattle.std.proofs.lemmas.Int.{to_z-of_z}
use Rattle.filter_sets.proofs.TestLemmas.{wanted_answer}
use Rattle.filter_sets.proofs.test.between.Goals as goal

pub returns : goal.returns
returns c =
    let fits : FitsSigned w128 c.args.low.now = first_of (search rules, grind (arith, common_steps)) in
    let also : FitsSigned w128 c.args.high.now = first_of (search rules, grind (arith, common_steps)) in
    wanted_answer c.args.facets.now c.args.path.0 c.args.low.now c.args.high.now _ _ (to_z-of_z _ c.args.low.now fits) (to_z-of_z _ c.args.high.now also)
    (λ m. not (int_lt m c.args.low.now) && not (int_lt c.args.high.now m)) c.args.all.now.ids (λ m inside. refl) c.numbers.result c.numbers.ensures
