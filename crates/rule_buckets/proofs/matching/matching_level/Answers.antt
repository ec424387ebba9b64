use Rattle.std.proofs.Common.{◌≡◌, ℕ, None, refl, sym, ap, subst, ◌∙◌, ◌&&◌, true, IfNone}
use Rattle.std.specs.List.{slice_get}
use Rattle.search_base.specs.Sums.{least_cost}
use Rattle.search_base.specs.WordsCost.{level_matches}
use Rattle.condition_graph.specs.Meets.{meets}
use Rattle.condition_graph.specs.Promise.{GivesLeastCost}
use Rattle.search_base.specs.declared.rule.Rule.TheVariants.{Words}
use Rattle.doc_sets.specs.Sets.{has}
use Rattle.doc_sets.specs.SetView.{SetView}
use Rattle.path_costs.specs.Costs.{cost_of, cost_in, IsBucket}
use Rattle.rule_buckets.proofs.Members.{told, tell}
use Rattle.rule_buckets.proofs.Levels.{bucket-agree, matched, matched-none}
use Rattle.rule_buckets.proofs.matching.matching_level.Goals as goal

pub returns-in-Some : goal.returns-in-Some
returns-in-Some g c =
    let rows = g.S.RuleSource.rows c.args.source.now in
    let same = c.in_ok-all.ensures.cases in
    tell (λ view. (d : ℕ) → has c.in-Some.docs.ids d ≡ (has c.args.universe.now.ids d && level_matches (rows d).places view)) (slice_get c.args.graph.now.levels c.args.level) (λ view e.
    let least : GivesLeastCost Words c.ranks.result view c.in_ok-made.made = told (λ v. GivesLeastCost Words c.ranks.result v c.in_ok-made.made) (slice_get c.args.graph.now.levels c.args.level) view c.in_ok-made.ensures.cost e in
    let are = λ (d : ℕ) (h : has c.in_ok-costs.costs.remaining d ≡ true). c.in_ok-costs.ensures.cost d (ap (λ l. has l d) (sym c.in_ok-costs.ensures.remaining) ∙ h)
    ∙ ap (λ (asked : g.row.S.Denot). cost_of (λ condition y. meets (g.S.RuleSource.rows asked y).places condition) c.in_ok-made.made d) c.new.ensures ∙ least (rows d).places (c.ranks.ensures d) in
    let cost = cost_in (λ (asked : g.row.S.Denot) condition d. meets (g.S.RuleSource.rows asked d).places condition) c.in_ok-costs.costs in
    let words = λ (d : ℕ). least_cost Words (rows d).places view in
    let bucket = told (λ (x : ℕ × SetView). IsBucket cost c.in_ok-costs.costs.remaining c.next_cost.new.self.remaining x.0 x.1.ids) c.in_ok-docs.field-0 (c.in-Some.field-0-0, c.in-Some.docs) c.in_ok-docs.ensures.some c.in-Some.is in
    matched rows words c.in_ok-costs.costs.remaining c.args.universe.now.ids c.next_cost.new.self.remaining c.in-Some.docs.ids c.in-Some.field-0-0 view (c.in_ok-costs.ensures.remaining ∙ same) (λ d. refl)
    (bucket-agree cost words c.in_ok-costs.costs.remaining c.next_cost.new.self.remaining c.in-Some.field-0-0 c.in-Some.docs.ids are bucket))

pub returns : goal.returns
returns g c =
    let rows = g.S.RuleSource.rows c.args.source.now in
    tell (λ view. (d : ℕ) → has c.new-in-None.result.ids d ≡ (has c.args.universe.now.ids d && level_matches (rows d).places view)) (slice_get c.args.graph.now.levels c.args.level) (λ view e d.
    let least : GivesLeastCost Words c.ranks.result view c.in_ok-made.made = told (λ v. GivesLeastCost Words c.ranks.result v c.in_ok-made.made) (slice_get c.args.graph.now.levels c.args.level) view c.in_ok-made.ensures.cost e in
    let are = λ (x : ℕ) (h : has c.in_ok-costs.costs.remaining x ≡ true). c.in_ok-costs.ensures.cost x (ap (λ l. has l x) (sym c.in_ok-costs.ensures.remaining) ∙ h)
    ∙ ap (λ (asked : g.row.S.Denot). cost_of (λ condition y. meets (g.S.RuleSource.rows asked y).places condition) c.in_ok-made.made x) c.new.ensures ∙ least (rows x).places (c.ranks.ensures x) in
    let cost = cost_in (λ (asked : g.row.S.Denot) condition x. meets (g.S.RuleSource.rows asked x).places condition) c.in_ok-costs.costs in
    let none : (x : ℕ) → has c.in_ok-costs.costs.remaining x ≡ true → cost x ≡ None = subst (λ o. IfNone o ((x : ℕ) → has c.in_ok-costs.costs.remaining x ≡ true → cost x ≡ None)) c.in-None.is c.in_ok-docs.ensures.none in
    ap (λ l. has l d) c.new-in-None.ensures
    ∙ matched-none rows (λ x. least_cost Words (rows x).places view) c.in_ok-costs.costs.remaining c.args.universe.now.ids view (c.in_ok-costs.ensures.remaining ∙ c.in_ok-all.ensures.cases) (λ x. refl)
    (λ x h. sym (are x h) ∙ none x h) d)
