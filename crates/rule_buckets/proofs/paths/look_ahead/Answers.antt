use Rattle.std.proofs.Common.{◌≡◌, ℕ, true, Option, None, IfNone, refl, sym, ap, subst, ◌∙◌}
use Rattle.condition_graph.specs.Meets.{meets}
use Rattle.doc_sets.specs.Sets.{has}
use Rattle.doc_sets.specs.SetView.{SetView}
use Rattle.path_costs.specs.Costs.{cost_in, IsBucket}
use Rattle.rule_buckets.specs.Entries.{entry_in}
use Rattle.rule_buckets.specs.Streams.{LevelCostsView, IsStream, IsCosts, is_member, is_among}
use Rattle.rule_buckets.proofs.Members.{told}
use Rattle.rule_buckets.proofs.Streaming.{looked-ahead, looked-same, ended}
use Rattle.rule_buckets.proofs.paths.look_ahead.Goals as goal

pub returns-in-Some-2-clause-ready : goal.returns-in-Some-2-clause-ready
returns-in-Some-2-clause-ready g c =
    let rows = g.S.RuleSource.rows in
    let costs = c.stream.inside.costs in
    let entry = entry_in rows c.args._query.now in
    let cost = cost_in (λ (asked : g.row.S.Denot) condition d. meets (rows asked d).places condition) costs in
    let whole : IsStream rows c.args._query.now (record { source = costs.source; graph = costs.graph; ahead = c.stream.inside.next; rest = costs.remaining })
    = subst (λ v. IsStream rows c.args._query.now v) (sym c.stream.view_is) c.requires in
    let none : IsCosts entry cost None costs.remaining = subst (λ (o : Option (ℕ × SetView)). IsCosts entry cost o costs.remaining) c.in-None.is whole in
    let bucket = told (λ (x : ℕ × SetView). IsBucket cost costs.remaining c.next_cost.new.self.remaining x.0 x.1.ids) c.in_ok-found-in-None.field-0 c.in-Some-2.found c.in_ok-found-in-None.ensures.some c.in-Some-2.is in
    let after = cost_in (λ (asked : g.row.S.Denot) condition d. meets (rows asked d).places condition) c.next_cost.new.self in
    (looked-ahead entry cost after costs.remaining c.next_cost.new.self.remaining c.in-Some-2.found c.in_ok-found-in-None.ensures.kept none bucket, refl)

pub returns-in-Some-2-clause-same : goal.returns-in-Some-2-clause-same
returns-in-Some-2-clause-same g c = λ d.
    let rows = g.S.RuleSource.rows in
    let costs = c.stream.inside.costs in
    let cost = cost_in (λ (asked : g.row.S.Denot) condition x. meets (rows asked x).places condition) costs in
    let bucket = told (λ (x : ℕ × SetView). IsBucket cost costs.remaining c.next_cost.new.self.remaining x.0 x.1.ids) c.in_ok-found-in-None.field-0 c.in-Some-2.found c.in_ok-found-in-None.ensures.some c.in-Some-2.is in
    looked-same cost costs.remaining c.next_cost.new.self.remaining c.in-Some-2.found bucket d
    ∙ ap (λ (o : Option (ℕ × SetView)). is_among o costs.remaining d) (sym c.in-None.is)
    ∙ ap (λ (v : LevelCostsView g.row.S.Denot). is_member v d) c.stream.view_is

pub returns-clause-ended : goal.returns-clause-ended
returns-clause-ended g c = λ d.
    let rows = g.S.RuleSource.rows in
    let costs = c.stream.inside.costs in
    let entry = entry_in rows c.args._query.now in
    let cost = cost_in (λ (asked : g.row.S.Denot) condition x. meets (rows asked x).places condition) costs in
    let whole : IsStream rows c.args._query.now (record { source = costs.source; graph = costs.graph; ahead = c.stream.inside.next; rest = costs.remaining })
    = subst (λ v. IsStream rows c.args._query.now v) (sym c.stream.view_is) c.requires in
    let none : IsCosts entry cost None costs.remaining = subst (λ (o : Option (ℕ × SetView)). IsCosts entry cost o costs.remaining) c.in-None.is whole in
    sym (ap (λ (v : LevelCostsView g.row.S.Denot). is_member v d) c.stream.view_is)
    ∙ ap (λ (o : Option (ℕ × SetView)). is_among o costs.remaining d) c.in-None.is
    ∙ ended entry cost costs.remaining none
    (subst (λ o. IfNone o ((x : ℕ) → has costs.remaining x ≡ true → cost x ≡ None)) c.in-None-2.is c.in_ok-found-in-None.ensures.none) d
