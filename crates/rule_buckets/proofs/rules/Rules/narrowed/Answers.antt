use Rattle.std.proofs.Common.{map, sym, ap, subst, ◌∙◌}
use Rattle.doc_sets.specs.Sets.{has, intersection}
use Rattle.doc_sets.specs.SetView.{SetView}
use Rattle.bucket_sort.specs.Buckets.{AreAmong}
use Rattle.rule_buckets.specs.Rules.{RulesView}
use Rattle.rule_buckets.proofs.OneLevel.{within-or-one}
use Rattle.rule_buckets.proofs.rules.Rules.narrowed.Goals as goal

pub invariant_of-result : goal.invariant_of-result
invariant_of-result g c =
    let rows = g.S.RuleSource.rows in
    let is = c.self.inside in
    let are = c.in_ok-levels.ensures ∙ ap (map (λ (s : SetView). intersection s.ids c.args.docs.ids)) c.as_slice.ensures.value in
    let among = subst (λ (v : RulesView g.row.S.Denot). AreAmong (has v.matching) c.args.docs.ids) (sym c.self.view_is) c.requires in (
      c.self.invariant.0,
      within-or-one (rows is.source.now) is.graph.now is.matching.ids is.levels.items c.in_ok-levels.levels.items c.args.docs.ids are c.self.invariant.1 among,
      λ d h. c.self.invariant.2 d (among d h),
    )
