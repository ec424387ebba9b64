use Rattle.std.proofs.Common.{sym, ap, ◌∙◌}
use Rattle.rule_buckets.specs.Entries.{QueryView}
use Rattle.rule_buckets.specs.Rules.{is_listed}
use Rattle.rule_buckets.proofs.Within.{listed-entries, why-listed, path-rule, path-count}
use Rattle.rule_buckets.proofs.rules.counted.Goals as goal

pub invariant_of-kind : goal.invariant_of-kind
invariant_of-kind g c =
    let rows = g.S.RuleSource.rows in
    let q = c.args.query in
    let listed = ap (λ (v : QueryView g.row.S.Denot). is_listed v.graph.levels v.rule) (sym c.query.view_is) ∙ sym c.is_listed.ensures ∙ c.if-is_listed.true in
    listed-entries (rows q.source) q.graph q.rule c.args.sets.items c.requires.graph c.requires.rule (why-listed q.graph.levels q.rule listed) c.requires.sets c.requires.count

pub path_buckets-requires-clause-rule : goal.path_buckets-requires-clause-rule
path_buckets-requires-clause-rule g c =
    let q = c.args.query in
    let listed = ap (λ (v : QueryView g.row.S.Denot). is_listed v.graph.levels v.rule) (sym c.query.view_is) ∙ sym c.is_listed.ensures ∙ c.if-is_listed.false in
    path-rule q.graph.levels q.rule c.requires.rule listed

pub path_buckets-requires-clause-count : goal.path_buckets-requires-clause-count
path_buckets-requires-clause-count g c =
    let q = c.args.query in
    let listed = ap (λ (v : QueryView g.row.S.Denot). is_listed v.graph.levels v.rule) (sym c.query.view_is) ∙ sym c.is_listed.ensures ∙ c.if-is_listed.false in
    path-count q.graph.levels q.rule _ listed c.requires.count
