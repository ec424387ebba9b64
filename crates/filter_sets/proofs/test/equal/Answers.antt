use Rattle.std.proofs.Common.{◌∙◌, ap, rules, arith}
use Rattle.std.specs.Int.{w128}
use Rattle.std.specs.Int.RustNames.{FitsSigned}
use Rattle.std.proofs.lemmas.Grind.{common_steps}
use Rattle.std.proofs.lemmas.Int.{to_z-of_z}
use Rattle.token_words.specs.Normal.{normal}
use Rattle.filter_tree.specs.Number.{number_of}
use Rattle.filter_sets.proofs.TestLemmas.{either_answer}
use Rattle.filter_sets.proofs.test.equal.Goals as goal

pub returns-in-Some : goal.returns-in-Some
returns-in-Some c =
    let fits : FitsSigned w128 c.in-Some.number = first_of (search rules, grind (arith, common_steps)) in
    either_answer c.args.facets.now c.args.path.0 c.args.text.now c.in_ok-normal.field-0 c.in-Some.number _ c.args.all.now.ids c.in_ok-docs.docs.ids
    c.in_ok-more-in-Some.more.ids (to_z-of_z _ c.in-Some.number fits) (c.in_ok-normal.ensures ∙ ap normal c.as_str.ensures)
    (c.in-Some.ensures ∙ ap number_of c.as_str-2.ensures) c.in_ok-docs.ensures c.in_ok-more-in-Some.ensures c.either.result c.either.ensures
