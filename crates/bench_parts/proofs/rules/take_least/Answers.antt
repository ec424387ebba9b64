use Rattle.std.proofs.Common.{◌≡◌, ◌∙◌, sym, ap, subst, ◌<◌, List, ℕ, length}
use Rattle.search_base.specs.CostOrder.{before}
use Rattle.search_base.specs.declared.cost_key.CostKey.TheVariants.{Number}
use Rattle.doc_sets.specs.Sets.{intersection, difference}
use Rattle.bucket_sort.specs.Buckets.{IsBucket}
use Rattle.bench_parts.specs.Splits.{split_key}
use Rattle.bench_parts.proofs.SplitLemmas.{none-if, some-if, other-bucket, none-left}
use Rattle.bench_parts.proofs.rules.take_least.Goals as goal

pub returns-then-not-is_empty-2-clause-some : goal.returns-then-not-is_empty-2-clause-some
returns-then-not-is_empty-2-clause-some c =
    let first = c.args.first.now.ids in
    let old = c.args.left.now.ids in
    let none = none-if (length c.in_ok-chosen.chosen.ids) c.is_empty.result c.is_empty.ensures c.if-not-is_empty.false in
    let some = some-if (length c.in_ok-others.others.ids) c.is_empty-2.result c.is_empty-2.ensures c.if-not-is_empty-2.true in
    subst (λ (new : List ℕ). IsBucket before (split_key first) old new (Number 1) c.in_ok-others.others.ids) (sym c.in_ok-chosen.ensures)
    (subst (λ (docs : List ℕ). IsBucket before (split_key first) old (intersection old first) (Number 1) docs) (sym c.in_ok-others.ensures)
    (other-bucket first old (ap length (sym c.in_ok-chosen.ensures) ∙ none) (subst (λ (docs : List ℕ). 0 < length docs) c.in_ok-others.ensures some)))

pub returns-clause-none : goal.returns-clause-none
returns-clause-none c =
    let none = none-if (length c.in_ok-chosen.chosen.ids) c.is_empty.result c.is_empty.ensures c.if-not-is_empty.false in
    let none_left = none-if (length c.in_ok-others.others.ids) c.is_empty-2.result c.is_empty-2.ensures c.if-not-is_empty-2.false in
    none-left c.args.first.now.ids c.args.left.now.ids (ap length (sym c.in_ok-chosen.ensures) ∙ none) (ap length (sym c.in_ok-others.ensures) ∙ none_left)
