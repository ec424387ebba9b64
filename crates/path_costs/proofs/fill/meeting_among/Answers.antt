use Rattle.std.proofs.Common.{◌≡◌, ◌∙◌, sym, ap, refl, Some, filter}
use Rattle.condition_graph.specs.declared.graph.ConditionEdge.{ConditionEdge}
use Rattle.doc_sets.specs.Sets.{has}
use Rattle.path_costs.proofs.fill.meeting_among.Goals as goal

pub returns-then-is_met-clause-docs : goal.returns-then-is_met-clause-docs
returns-then-is_met-clause-docs g c e at =
    (has c.met_at.result.now.ids, c.in_ok-both.ensures, λ d r. c.requires.right c.args.edge c.met_at.result.now e c.met_at.ensures at d r)

pub returns-clause-docs : goal.returns-clause-docs
returns-clause-docs g c e at =
    let both : Some c.condition_at-asked.result.now ≡ Some e = sym c.condition_at-asked.ensures ∙ at in
    let same : c.condition_at-asked.result.now ≡ e = cc in (
      g.R.Resolve.meets c.args.source.now e.condition,
      c.in_ok-set.ensures.docs ∙ ap (λ (x : ConditionEdge). filter (g.R.Resolve.meets c.args.source.now x.condition) c.args.docs.now.ids) same,
      λ d r. refl,
    )
