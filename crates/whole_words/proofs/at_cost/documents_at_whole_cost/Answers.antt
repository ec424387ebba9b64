use Rattle.std.proofs.Common.{◌≡◌, length, ap, sym, subst, ◌∙◌, arith}
use Rattle.posting_sets.proofs.OccursLemmas.{ok_of}
use Rattle.whole_words.specs.Costs.{AreAtCost, is_as_long, is_in_some}
use Rattle.whole_words.proofs.CostLemmas.{some_words, no_words, at_zero, at_one}
use Rattle.whole_words.proofs.at_cost.documents_at_whole_cost.Goals as goal

pub returns-then-is_empty : goal.returns-then-is_empty
returns-then-is_empty c = ok_of _ _ c.without_words.result c.without_words.ensures (λ docs found.
    subst (λ words. AreAtCost c.args.postings.now c.args.lengths.now words c.args.cost c.args.universe.now.ids docs.ids)
    (sym (no_words c.args.words.now (sym c.is_empty.ensures ∙ c.if-is_empty.true))) (found c.args.lengths.now))

pub returns-then-cost-eq0 : goal.returns-then-cost-eq0
returns-then-cost-eq0 c =
    let some = some_words c.args.words.now (sym c.is_empty.ensures ∙ c.if-is_empty.false) in
    subst (λ cost. AreAtCost c.args.postings.now c.args.lengths.now c.args.words.now cost c.args.universe.now.ids c.in_ok-whole.whole.ids) (sym c.if-cost-eq0.true)
    (at_zero c.args.postings.now c.args.lengths.now c.args.words.now some c.args.universe.now.ids c.len-documents.ensures.increasing c.in_ok-begun.begun.items
    c.in_ok-begun.ensures.sets c.in_ok-whole.whole.ids c.in_ok-whole.ensures.increasing
    (λ documents measured id. c.in_ok-whole.ensures.documents documents measured id
    ∙ ap (λ sets. is_as_long documents (length c.args.words.now) 0 sets id) c.as_slice.ensures.value))

pub returns : goal.returns
returns c =
    let some = some_words c.args.words.now (sym c.is_empty.ensures ∙ c.if-is_empty.false) in
    let one : c.args.cost ≡ 1 = omega arith in
    ok_of _ _ c.minus.result c.minus.ensures (λ docs is.
    subst (λ cost. AreAtCost c.args.postings.now c.args.lengths.now c.args.words.now cost c.args.universe.now.ids docs.ids) (sym one)
    (subst (AreAtCost c.args.postings.now c.args.lengths.now c.args.words.now 1 c.args.universe.now.ids) (sym is)
    (at_one c.args.postings.now c.args.lengths.now c.args.words.now some c.args.universe.now.ids c.len-documents.ensures.increasing c.in_ok-begun.begun.items
    c.in_ok-begun.ensures.sets c.in_ok-whole.whole.ids c.in_ok-whole.ensures.increasing
    (λ documents measured id. c.in_ok-whole.ensures.documents documents measured id
    ∙ ap (λ sets. is_as_long documents (length c.args.words.now) 0 sets id) c.as_slice.ensures.value)
    c.in_ok-all.all.ids c.in_ok-all.ensures.increasing
    (λ id. c.in_ok-all.ensures.documents id ∙ ap (λ sets. is_in_some sets id) c.as_slice-2.ensures.value))))
