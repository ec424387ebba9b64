use Rattle.std.proofs.Common.{sym, ap, subst, ◌∙◌, ◌==◌}
use Rattle.doc_sets.specs.Sets.{IsIncreasing}
use Rattle.doc_sets.proofs.SetLemmas.{increasing-filter}
use Rattle.near_words.specs.ByCost.{cost_in, costed_at}
use Rattle.near_words.proofs.costs.documents_by_cost.Goals as goal

pub set_at-requires : goal.set_at-requires
set_at-requires c =
    let k = c.loop-cost.cost in
    let cost = cost_in c.args.left.now.entries c.args.right.now.entries in
    subst IsIncreasing (sym (ap (λ found. costed_at found k) c.as_slice.ensures.value ∙ c.in_ok-found.ensures.found k c.loop-cost-test.true))
    (increasing-filter (λ id. cost id == k) c.args.universe.now.ids c.in_ok-found.ensures.increasing)
