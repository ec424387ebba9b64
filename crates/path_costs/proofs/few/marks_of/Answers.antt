use Rattle.std.proofs.Common.{◌≡◌, ◌∙◌, sym, ap, Some, filter}
use Rattle.condition_graph.specs.declared.condition.Condition.{Condition}
use Rattle.condition_graph.specs.declared.graph.ConditionEdge.{ConditionEdge}
use Rattle.doc_sets.specs.Sets.{has}
use Rattle.path_costs.proofs.FewLemmas.{map-same, marks-all}
use Rattle.path_costs.proofs.few.marks_of.Goals as goal

pub returns-then-is_free-clause-marks : goal.returns-then-is_free-clause-marks
returns-then-is_free-clause-marks g c e at =
    let both : Some e ≡ Some c.condition_at.result.now = sym at ∙ c.condition_at.ensures in
    let same : e ≡ c.condition_at.result.now = cc in
    let free = ap (λ (x : ConditionEdge). x.condition) same ∙ c.is_free.ensures c.if-is_free.true in
    c.in_ok-marks.ensures
    ∙ marks-all (g.R.Resolve.meets c.args.source.now e.condition)
    (λ d. ap (λ (x : Condition). g.R.Resolve.meets c.args.source.now x d) free ∙ g.met.R.Resolve.free c.args.source.now d) c.args.ids.now

pub returns-clause-marks : goal.returns-clause-marks
returns-clause-marks g c e at =
    let met = c.in_ok-docs.ensures.docs e at in
    c.in_ok-marks-2.ensures met.0 (c.deref.ensures.value ∙ c.in_ok-kept.ensures ∙ met.1 ∙ ap (filter met.0) (sym c.requires.ids))
    ∙ map-same met.0 (g.R.Resolve.meets c.args.source.now e.condition) c.args.ids.now (λ d r. met.2 d (ap (λ l. has l d) (sym c.requires.ids) ∙ r))
