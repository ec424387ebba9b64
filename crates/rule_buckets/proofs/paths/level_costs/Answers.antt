use Rattle.std.proofs.Common.{◌≡◌, ◌<◌, true, length, sym, ap, subst, ◌∙◌}
use Rattle.search_base.specs.declared.cost_key.CostKey.TheVariants.{Number}
use Rattle.search_base.specs.Tuple.{cost_of}
use Rattle.doc_sets.specs.Sets.{has}
use Rattle.condition_graph.specs.Meets.{meets}
use Rattle.path_costs.specs.Costs.{is_cost, cost_of as costs_of}
use Rattle.rule_buckets.specs.Entries.{QueryView, entry_in}
use Rattle.rule_buckets.specs.Rules.{is_path}
use Rattle.rule_buckets.proofs.Streaming.{path-known}
use Rattle.rule_buckets.proofs.paths.level_costs.Goals as goal

pub returns-clause-stream : goal.returns-clause-stream
returns-clause-stream g c =
    let rows = g.S.RuleSource.rows in
    let q : QueryView g.row.S.Denot = record { source = c.query.inside.source.now; graph = c.query.inside.graph.now; rule = c.query.inside.rule } in
    let is : q ≡ c.args.query.now = c.query.view_is in
    record {
      known = λ d h.
          let w = path-known (rows q.source d) q.graph q.rule c.args.level c.ranks.result c.in_ok-made.made
          (subst (λ (v : QueryView g.row.S.Denot). is_path v.rule ≡ true) (sym is) c.requires.rule)
          (subst (λ (v : QueryView g.row.S.Denot). c.args.level < length v.graph.levels) (sym is) c.requires.level)
          c.in_ok-made.ensures.cost
          (c.ranks.ensures d)
          (subst (λ (v : QueryView g.row.S.Denot). is_cost c.args.level (cost_of (rows v.source d).places v.graph.levels) ≡ true) (sym is)
          (c.requires.docs d (ap (λ l. has l d) (sym c.in_ok-costs.ensures.remaining) ∙ h)))
          in (
            w.0,
            c.in_ok-costs.ensures.cost d (ap (λ l. has l d) (sym c.in_ok-costs.ensures.remaining) ∙ h)
                ∙ ap (λ (asked : g.row.S.Denot). costs_of (λ condition x. meets (rows asked x).places condition) c.in_ok-made.made d) c.new.ensures ∙ w.1,
            subst (λ v. entry_in rows v d ≡ Number w.0) is w.2,
          );
      next = tt;
    }
