use Rattle.std.proofs.Common.{IfSome, reverse, sym, subst, ◌∙◌}
use Rattle.sort_rule.specs.Ordered.{AreOrdered}
use Rattle.rule_buckets.specs.Keyed.{key_by, key_in}
use Rattle.rule_buckets.proofs.keyed.KeyedRowsOrderedRows.ordered.Goals as goal

pub returns-in_ok-buckets-in-Values : goal.returns-in_ok-buckets-in-Values
returns-in_ok-buckets-in-Values g c =
    let rows = g.S.RuleSource.rows in
    let u = c.args.universe.now.ids in
    let found = c.in_ok-buckets-in-Values.buckets in
    subst (λ keyed. IfSome found (λ buckets. AreOrdered (key_in rows keyed.query) u (reverse buckets.items))) c.self.view_is
    (subst (λ kind. IfSome found (λ buckets. AreOrdered (λ d. key_by (rows c.self.inside.0.0.source.now d) c.self.inside.0.0.graph.now.whole kind) u (reverse buckets.items)))
    (sym (sym c.key_kind.ensures ∙ c.in-Values.is)) c.in_ok-buckets-in-Values.ensures)
