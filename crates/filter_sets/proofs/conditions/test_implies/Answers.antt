use Rattle.std.proofs.Common.{rules, arith}
use Rattle.std.specs.Int.{w128}
use Rattle.std.specs.Int.RustNames.{FitsSigned}
use Rattle.std.proofs.lemmas.Grind.{common_steps}
use Rattle.std.proofs.lemmas.Int.{to_z-of_z}
use Rattle.filter_sets.proofs.ConditionLemmas.{no_greater, above_weaker, from_weaker, below_weaker, up_to_weaker, between_weaker}
use Rattle.filter_sets.proofs.conditions.test_implies.Goals as goal

pub returns-in-Above-Above : goal.returns-in-Above-Above
returns-in-Above-Above c =
    let fits : FitsSigned w128 c.in-Above-Above.n = first_of (search rules, grind (arith, common_steps)) in
    let also : FitsSigned w128 c.in-Above-Above.m = first_of (search rules, grind (arith, common_steps)) in
    λ le. above_weaker c.args.test.now c.args.other.now c.in-Above-Above.n c.in-Above-Above.m c.in-Above-Above.is-0 c.in-Above-Above.is-1
    (no_greater c.in-Above-Above.m c.in-Above-Above.n _ _ (to_z-of_z _ c.in-Above-Above.m also) (to_z-of_z _ c.in-Above-Above.n fits) le)

pub returns-in-AtLeast-AtLeast : goal.returns-in-AtLeast-AtLeast
returns-in-AtLeast-AtLeast c =
    let fits : FitsSigned w128 c.in-AtLeast-AtLeast.n = first_of (search rules, grind (arith, common_steps)) in
    let also : FitsSigned w128 c.in-AtLeast-AtLeast.m = first_of (search rules, grind (arith, common_steps)) in
    λ le. from_weaker c.args.test.now c.args.other.now c.in-AtLeast-AtLeast.n c.in-AtLeast-AtLeast.m c.in-AtLeast-AtLeast.is-0 c.in-AtLeast-AtLeast.is-1
    (no_greater c.in-AtLeast-AtLeast.m c.in-AtLeast-AtLeast.n _ _ (to_z-of_z _ c.in-AtLeast-AtLeast.m also) (to_z-of_z _ c.in-AtLeast-AtLeast.n fits) le)

pub returns-in-Below-Below : goal.returns-in-Below-Below
returns-in-Below-Below c =
    let fits : FitsSigned w128 c.in-Below-Below.n = first_of (search rules, grind (arith, common_steps)) in
    let also : FitsSigned w128 c.in-Below-Below.m = first_of (search rules, grind (arith, common_steps)) in
    λ le. below_weaker c.args.test.now c.args.other.now c.in-Below-Below.n c.in-Below-Below.m c.in-Below-Below.is-0 c.in-Below-Below.is-1
    (no_greater c.in-Below-Below.n c.in-Below-Below.m _ _ (to_z-of_z _ c.in-Below-Below.n fits) (to_z-of_z _ c.in-Below-Below.m also) le)

pub returns-in-AtMost-AtMost : goal.returns-in-AtMost-AtMost
returns-in-AtMost-AtMost c =
    let fits : FitsSigned w128 c.in-AtMost-AtMost.n = first_of (search rules, grind (arith, common_steps)) in
    let also : FitsSigned w128 c.in-AtMost-AtMost.m = first_of (search rules, grind (arith, common_steps)) in
    λ le. up_to_weaker c.args.test.now c.args.other.now c.in-AtMost-AtMost.n c.in-AtMost-AtMost.m c.in-AtMost-AtMost.is-0 c.in-AtMost-AtMost.is-1
    (no_greater c.in-AtMost-AtMost.n c.in-AtMost-AtMost.m _ _ (to_z-of_z _ c.in-AtMost-AtMost.n fits) (to_z-of_z _ c.in-AtMost-AtMost.m also) le)

pub returns-then-lower-low : goal.returns-then-lower-low
returns-then-lower-low c =
    let low : FitsSigned w128 c.in-Between-Between.low = first_of (search rules, grind (arith, common_steps)) in
    let high : FitsSigned w128 c.in-Between-Between.high = first_of (search rules, grind (arith, common_steps)) in
    let lower : FitsSigned w128 c.in-Between-Between.lower = first_of (search rules, grind (arith, common_steps)) in
    let higher : FitsSigned w128 c.in-Between-Between.higher = first_of (search rules, grind (arith, common_steps)) in
    λ le. between_weaker c.args.test.now c.args.other.now c.in-Between-Between.low c.in-Between-Between.high c.in-Between-Between.lower c.in-Between-Between.higher c.in-Between-Between.is-0 c.in-Between-Between.is-1
    (no_greater c.in-Between-Between.lower c.in-Between-Between.low _ _ (to_z-of_z _ c.in-Between-Between.lower lower) (to_z-of_z _ c.in-Between-Between.low low) c.if-lower-low.true)
    (no_greater c.in-Between-Between.high c.in-Between-Between.higher _ _ (to_z-of_z _ c.in-Between-Between.high high) (to_z-of_z _ c.in-Between-Between.higher higher) le)
