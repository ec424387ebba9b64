use Rattle.std.proofs.Common.{◌≡◌, true, [], ◌∷◌, ap, sym, subst, ◌∙◌, arith}
use Rattle.posting_sets.specs.Found.{AreOccurring, term_of}
use Rattle.posting_sets.proofs.OccursLemmas.{ok_of}
use Rattle.whole_words.specs.Costs.{at_cost, AreAtCost}
use Rattle.whole_words.proofs.CostLemmas.{none_whole, all_begin}
use Rattle.whole_words.proofs.at_cost.without_words.Goals as goal

pub returns-then-cost-eq0 : goal.returns-then-cost-eq0
returns-then-cost-eq0 c = λ lengths documents fresh measured.
    c.new.ensures ∙ none_whole documents c.args.universe.now.ids ∙ ap (λ k. at_cost documents [] k c.args.universe.now.ids) (sym c.if-cost-eq0.true)

pub returns : goal.returns
returns c =
    let one : c.args.cost ≡ 1 = omega arith in
    ok_of _ _ c.documents.result c.documents.ensures (λ docs found lengths.
    subst (λ k. AreAtCost c.args.postings.now lengths [] k c.args.universe.now.ids docs.ids) (sym one)
    (all_begin c.args.postings.now lengths c.args.universe.now.ids docs.ids
    (subst (λ t. AreOccurring c.args.postings.now t c.args.universe.now.ids docs.ids)
    (ap (term_of true) (c.in_ok-from_array.ensures.items ∙ ap (λ w. w ∷ []) c.in_ok-new.ensures)) found)))
