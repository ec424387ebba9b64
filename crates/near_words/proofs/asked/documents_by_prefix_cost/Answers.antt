use Rattle.std.proofs.Common.{true, ap, ◌∙◌}
use Rattle.std.proofs.lemmas.Result.{IfOk-weaker}
use Rattle.search_base.specs.PairCost.{asked_cost}
use Rattle.postings.specs.Documents.{places_of}
use Rattle.postings.specs.Dictionary.{list_at}
use Rattle.near_words.specs.ByCost.{cost_in, ids_by_cost}
use Rattle.near_words.proofs.StandLemmas.{asked_costs, word_entries, prefix_entries}
use Rattle.near_words.proofs.NarrowLemmas.{costs_narrowed, left_stands}
use Rattle.near_words.proofs.asked.documents_by_prefix_cost.Goals as goal

pub returns : goal.returns
returns c = IfOk-weaker c.documents_by_cost.result _ _
    (λ sets told documents fresh are.
    let view = c.args.postings.now in
    let near = c.in_ok-near.near.ids in
    let word = c.args.left.now in
    let prefix = c.args.right.now in
    let right = c.in_ok-rights.rights.entries in
    told
    ∙ ap (λ left. ids_by_cost (cost_in left right) near) c.list_of-lefts.ensures
    ∙ asked_costs near (list_at word view) right documents word true prefix.prefix fresh.narrow (λ id. word_entries view documents word id fresh)
    (λ id member. prefix_entries documents prefix are near right id member c.in_ok-rights.ensures)
    ∙ costs_narrowed view word c.args.universe.now.ids near c.in_ok-near.ensures documents fresh
    (λ id. asked_cost (places_of id documents) word true prefix.prefix)
    (λ id low. left_stands (places_of id documents) word true prefix.prefix low))
    c.documents_by_cost.ensures
