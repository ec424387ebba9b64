use Rattle.std.proofs.Common.{ℕ, false, ap, ◌∙◌}
use Rattle.std.proofs.lemmas.Result.{IfOk-weaker}
use Rattle.search_base.specs.PairCost.{asked_cost}
use Rattle.postings.specs.Documents.{places_of}
use Rattle.postings.specs.Dictionary.{list_at}
use Rattle.near_words.specs.ByCost.{cost_in, ids_by_cost}
use Rattle.near_words.proofs.StandLemmas.{asked_costs, word_entries, asked_entries}
use Rattle.near_words.proofs.NarrowLemmas.{costs_narrowed, left_stands, right_stands}
use Rattle.near_words.proofs.asked.documents_by_pair_cost.Goals as goal

pub returns : goal.returns
returns c = IfOk-weaker c.documents_by_cost.result _ _
    (λ sets told documents fresh.
    let view = c.args.postings.now in
    let nearer = c.in_ok-nearer.nearer.ids in
    let left = c.args.left.now in
    let right = c.args.right.now in
    let cost : ℕ → ℕ = λ id. asked_cost (places_of id documents) left false right in
    told
    ∙ ap (λ entries. ids_by_cost (cost_in entries c.list_of-rights.result.now.entries) nearer) c.list_of-lefts.ensures
    ∙ ap (λ entries. ids_by_cost (cost_in (list_at left view) entries) nearer) c.list_of-rights.ensures
    ∙ asked_costs nearer (list_at left view) (list_at right view) documents left false right fresh.narrow (λ id. word_entries view documents left id fresh)
    (λ id member. asked_entries view documents right id fresh)
    ∙ costs_narrowed view right c.in_ok-near.near.ids nearer c.in_ok-nearer.ensures documents fresh cost
    (λ id low. right_stands (places_of id documents) left right low)
    ∙ costs_narrowed view left c.args.universe.now.ids c.in_ok-near.near.ids c.in_ok-near.ensures documents fresh cost
    (λ id low. left_stands (places_of id documents) left false right low))
    c.documents_by_cost.ensures
