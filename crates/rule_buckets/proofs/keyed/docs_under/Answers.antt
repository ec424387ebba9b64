use Rattle.std.proofs.Common.{◌≡◌, ◌==◌, filter, sym, ap, subst, ◌∙◌}
use Rattle.search_base.specs.GraphView.{GraphView}
use Rattle.search_base.specs.Whole.{whole_cost}
use Rattle.sort_rule.specs.Rows.{is_under}
use Rattle.path_costs.proofs.SetLemmas.{filter-agree}
use Rattle.rule_buckets.specs.Entries.{QueryView}
use Rattle.rule_buckets.specs.Keyed.{key_in, key_kind}
use Rattle.rule_buckets.proofs.Keys.{under-whole, under-other, under-nothing}
use Rattle.rule_buckets.proofs.Members.{filter-none}
use Rattle.rule_buckets.proofs.keyed.docs_under.Goals as goal

pub returns-in_ok-docs-in-Some : goal.returns-in_ok-docs-in-Some
returns-in_ok-docs-in-Some g c =
    let rows = g.S.RuleSource.rows in
    let u = c.args.universe.now.ids in
    let q : QueryView g.row.S.Denot = record { source = c.query.inside.source.now; graph = c.query.inside.graph.now; rule = c.query.inside.rule } in
    let words : c.as_slice.result.now ≡ q.graph.whole = c.as_slice.ensures.value ∙ ap (λ (v : GraphView). v.whole) c.graph.view_is in
    let kind = sym c.key_kind.ensures ∙ c.in-Whole.is in
    subst (λ (v : QueryView g.row.S.Denot). c.in_ok-docs-in-Some.docs.ids ≡ filter (λ d. is_under c.args.at.now (key_in rows v d)) u) c.query.view_is
    (c.in_ok-docs-in-Some.ensures ∙ ap (λ w. filter (λ d. whole_cost (rows q.source d).places w == c.in-Some.cost) u) words
    ∙ filter-agree (λ d. whole_cost (rows q.source d).places q.graph.whole == c.in-Some.cost) (λ d. is_under c.args.at.now (key_in rows q d)) u
    (λ d h. under-whole (rows q.source d) q.graph.whole (key_kind q.rule) c.args.at.now c.in-Some.cost kind (sym c.known_cost.ensures ∙ c.in-Some.is)))

pub returns-in-None : goal.returns-in-None
returns-in-None g c =
    let rows = g.S.RuleSource.rows in
    let q : QueryView g.row.S.Denot = record { source = c.query.inside.source.now; graph = c.query.inside.graph.now; rule = c.query.inside.rule } in
    subst (λ (v : QueryView g.row.S.Denot). c.new.result.ids ≡ filter (λ d. is_under c.args.at.now (key_in rows v d)) c.args.universe.now.ids) c.query.view_is
    (c.new.ensures ∙ sym (filter-none (λ d. is_under c.args.at.now (key_in rows q d)) c.args.universe.now.ids
    (λ d. under-other (rows q.source d) q.graph.whole (key_kind q.rule) c.args.at.now (sym c.key_kind.ensures ∙ c.in-Whole.is) (sym c.known_cost.ensures ∙ c.in-None.is))))

pub returns-in-Nothing : goal.returns-in-Nothing
returns-in-Nothing g c =
    let rows = g.S.RuleSource.rows in
    let q : QueryView g.row.S.Denot = record { source = c.query.inside.source.now; graph = c.query.inside.graph.now; rule = c.query.inside.rule } in
    subst (λ (v : QueryView g.row.S.Denot). c.new-in-Nothing.result.ids ≡ filter (λ d. is_under c.args.at.now (key_in rows v d)) c.args.universe.now.ids) c.query.view_is
    (c.new-in-Nothing.ensures ∙ sym (filter-none (λ d. is_under c.args.at.now (key_in rows q d)) c.args.universe.now.ids
    (λ d. under-nothing (rows q.source d) q.graph.whole (key_kind q.rule) c.args.at.now (sym c.key_kind.ensures ∙ c.in-Nothing.is))))
