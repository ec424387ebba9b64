use Rattle.std.proofs.Common.{rules, arith}
use Rattle.std.specs.Bool.{IsTrue}
use Rattle.std.proofs.lemmas.Grind.{common_steps}
use Rattle.facet_index.proofs.RowLemmas.{between_answer}
use Rattle.facet_index.proofs.ranges.documents_in_short.Goals as goal

pub returns : goal.returns
returns c =
    let whole : IsTrue c.in_ok-add_short.field-0 = first_of (search rules, grind (arith, common_steps)) in
    between_answer c.args.first.now c.args.last.now c.args.keys.now c.words_from-rows.result c.args.universe.now.ids c.in_ok-found.found c.add_short.new.found
    c.in_ok-finish.field-0.ids c.words_from-rows.ensures.order c.words_from-rows.ensures.lists c.in_ok-found.ensures (c.in_ok-add_short.ensures whole) c.in_ok-finish.ensures
