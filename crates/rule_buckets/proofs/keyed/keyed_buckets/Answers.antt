use Rattle.std.proofs.Common.{sym, ap, ap₂, ◌∙◌, subst}
use Rattle.search_base.specs.declared.cost_key.CostKey.{CostKey}
use Rattle.sort_rule.specs.Rows.{AreRows}
use Rattle.sort_rule.specs.Buckets.{key_or}
use Rattle.rule_buckets.specs.declared.keyed.KeyedRows.{KeyedRows}
use Rattle.rule_buckets.specs.Entries.{QueryView, entry_in}
use Rattle.rule_buckets.specs.Keyed.{keys_of, key_in}
use Rattle.rule_buckets.specs.Rules.{is_keyed}
use Rattle.rule_buckets.proofs.Keys.{keyed-entry, keyed-rows}
use Rattle.rule_buckets.proofs.keyed.keyed_buckets.Goals as goal

pub new-requires : goal.new-requires
new-requires g c =
    let rows = g.S.RuleSource.rows in
    let q : QueryView g.row.S.Denot = record { source = c.query.inside.source.now; graph = c.query.inside.graph.now; rule = c.query.inside.rule } in
    let is = ap (λ (v : QueryView g.row.S.Denot). is_keyed v.graph.levels v.rule) c.query.view_is ∙ c.requires in
    subst (λ (m : CostKey). AreRows (keys_of (g.S.RuleSource.keys q.source) q.rule) (key_in rows q) m) (sym c.missing_of-missing.ensures)
    (keyed-rows (rows q.source) q.graph (g.S.RuleSource.keys q.source) q.rule is (g.met.S.RuleSource.sorted q.source))

pub invariant_of-result : goal.invariant_of-result
invariant_of-result g c = λ d.
    let rows = g.S.RuleSource.rows in
    let q : QueryView g.row.S.Denot = record { source = c.query.inside.source.now; graph = c.query.inside.graph.now; rule = c.query.inside.rule } in
    let is = ap (λ (v : QueryView g.row.S.Denot). is_keyed v.graph.levels v.rule) c.query.view_is ∙ c.requires in
    ap₂ (λ (r : KeyedRows g.row.S.Denot) (m : CostKey). key_or (key_in rows r.query) m d) c.in_ok-stream.ensures.rows (c.in_ok-stream.ensures.missing ∙ c.missing_of-missing.ensures)
    ∙ keyed-entry (rows q.source d) q.graph q.rule is ∙ ap (λ (v : QueryView g.row.S.Denot). entry_in rows v d) c.query.view_is
