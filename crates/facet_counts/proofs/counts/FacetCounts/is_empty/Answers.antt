use Rattle.std.proofs.Common.{sym, ap, subst, ◌∙◌}
use Rattle.std.specs.List.{list_all}
use Rattle.facet_counts.specs.Counting.{AreCountsOf, has_no_path}
use Rattle.facet_counts.proofs.Replies.{no-paths}
use Rattle.facet_counts.proofs.counts.FacetCounts.is_empty.Goals as goal

pub returns : goal.returns
returns c = λ yes asked documents more.
    let none = sym (c.have_no_path.ensures ∙ ap (list_all has_no_path) c.deref.ensures.value) ∙ yes in
    subst (λ counters. AreCountsOf counters asked documents → AreCountsOf counters asked more) c.self.view_is (no-paths c.self.inside.counters.items asked documents more none)
