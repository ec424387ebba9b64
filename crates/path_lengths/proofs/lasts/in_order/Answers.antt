use Rattle.std.proofs.Common.{ap, subst, sym, ◌∙◌}
use Rattle.std.proofs.lemmas.List.Filters.{dedup_is}
use Rattle.sorted_pages.specs.Entries.{has, IsIncreasing}
use Rattle.postings.proofs.ListLemmas.{increasing_dedup, has_moved, has_dedup}
use Rattle.path_lengths.proofs.lasts.in_order.Goals as goal

pub returns-clause-increasing : goal.returns-clause-increasing
returns-clause-increasing c = subst IsIncreasing (sym (dedup_is _ _ _ c.dedup.ensures.filtered)) (increasing_dedup _ c.sort_unstable.ensures.sorted)

pub returns-clause-same : goal.returns-clause-same
returns-clause-same c = λ spot.
    ap (λ xs. has xs spot) (dedup_is _ _ _ c.dedup.ensures.filtered) ∙ has_dedup _ spot ∙ has_moved _ _ spot c.sort_unstable.ensures.permutation
