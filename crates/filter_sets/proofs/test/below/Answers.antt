use Rattle.std.proofs.Common.{ℤ, pos, ◌-ℤ◌, ◌∙◌, int_lt, refl, sym, ap, subst, rules, arith}
use Rattle.std.specs.Int.{w128}
use Rattle.std.specs.Int.RustNames.{FitsSigned}
use Rattle.std.proofs.lemmas.Grind.{common_steps}
use Rattle.std.proofs.lemmas.Int.{to_z-of_z}
use Rattle.filter_sets.proofs.TestLemmas.{wanted_answer, none_wanted}
use Rattle.filter_sets.proofs.EndLemmas.{none_below}
use Rattle.filter_sets.proofs.NumberLemmas.{least_of_all, below}
use Rattle.filter_sets.proofs.test.below.Goals as goal

pub returns-in-Some : goal.returns-in-Some
returns-in-Some c =
    let fits : FitsSigned w128 c.args.n.now = first_of (search rules, grind (arith, common_steps)) in
    let again = to_z-of_z _ c.args.n.now fits in
    let made = subst (FitsSigned w128) (sym c.in-Some.ensures.1) c.in-Some.ensures.0 in
    wanted_answer c.args.facets.now c.args.path.0 least_of_all c.in-Some.high _ _ refl (to_z-of_z _ c.in-Some.high made) (λ m. int_lt m c.args.n.now) c.args.all.now.ids
    (below c.args.n.now c.in-Some.high (c.in-Some.ensures.1 ∙ ap (λ (k : ℤ). k -ℤ pos 1) again)) c.numbers.result c.numbers.ensures

pub returns-in-None : goal.returns-in-None
returns-in-None c =
    let fits : FitsSigned w128 c.args.n.now = first_of (search rules, grind (arith, common_steps)) in
    let again = to_z-of_z _ c.args.n.now fits in
    none_wanted c.args.facets.now c.args.path.0 (λ m. int_lt m c.args.n.now) c.args.all.now.ids c.new.result.ids c.new.ensures
    (none_below c.args.n.now fits (λ f. c.in-None.ensures (subst (λ (k : ℤ). FitsSigned w128 (k -ℤ pos 1)) (sym again) f)))
