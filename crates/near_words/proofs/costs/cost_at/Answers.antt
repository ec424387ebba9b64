use Rattle.std.proofs.Common.{◌/◌, ◌^◌, ◌==◌, ◌++◌, sym, ap, subst, ◌∙◌}
use Rattle.sorted_pages.specs.Entries.{IsIncreasing}
use Rattle.postings.proofs.ListLemmas.{increasing_filter}
use Rattle.near_words.specs.ByCost.{run_of}
use Rattle.near_words.proofs.costs.cost_at.Goals as goal

pub pair_cost-requires-clause-left : goal.pair_cost-requires-clause-left
pair_cost-requires-clause-left c =
    let id = c.args.id.0 in
    let told = c.as_slice.ensures.value ∙ c.in_ok-read.ensures.run ∙ ap (λ had. had ++ run_of id c.args.left.now) c.clear.ensures.items in
    subst IsIncreasing (sym told) (increasing_filter (λ entry. entry / 2 ^ 32 == id) c.args.left.now c.read.ensures.increasing)

pub pair_cost-requires-clause-right : goal.pair_cost-requires-clause-right
pair_cost-requires-clause-right c =
    let id = c.args.id.0 in
    let told = c.as_slice-2.ensures.value ∙ c.in_ok-read-2.ensures.run ∙ ap (λ had. had ++ run_of id c.args.right.now) c.clear-2.ensures.items in
    subst IsIncreasing (sym told) (increasing_filter (λ entry. entry / 2 ^ 32 == id) c.args.right.now c.read-2.ensures.increasing)
