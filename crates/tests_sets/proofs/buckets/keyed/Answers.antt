use Rattle.std.proofs.Common.{◌∙◌, sym, ap, subst, append-nil, ◌++◌, map, filter}
use Rattle.doc_sets.specs.Sets.{IsIncreasing}
use Rattle.doc_sets.proofs.SetLemmas.{increasing-filter}
use Rattle.search_base.specs.declared.document.DocId.{DocId}
use Rattle.bucket_sort.specs.Tables.{number_at, is_kept}
use Rattle.tests_sets.proofs.buckets.keyed.Goals as goal

pub from_sorted-requires : goal.from_sorted-requires
from_sorted-requires c =
    let p = is_kept (number_at c.args.rows.now c.args.level) c.args.key c.args.has_it in
    let kept = map (λ (id : DocId). id.0) c.loop-id.kept.items in
    let all = sym (append-nil kept) ∙ ap (λ v. kept ++ filter p v) (sym c.in-None.ensures.steps.0) ∙ c.loop-id.invariant in
    rw c.as_slice.ensures.value (subst IsIncreasing (sym all) (increasing-filter p c.args.docs.now.ids c.iter-id-items.ensures.increasing))
