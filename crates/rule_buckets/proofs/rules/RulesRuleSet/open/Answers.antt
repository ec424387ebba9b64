use Rattle.std.proofs.Common.{sym, subst}
use Rattle.rule_buckets.specs.Rules.{RulesView, AreTheirs}
use Rattle.rule_buckets.proofs.rules.RulesRuleSet.open.Goals as goal

pub counted-requires-clause-sets : goal.counted-requires-clause-sets
counted-requires-clause-sets g c =
    let rows = g.S.RuleSource.rows in
    subst (λ (v : RulesView g.row.S.Denot). AreTheirs (rows v.source) v.graph c.in_ok-sets.sets.items) (sym c.self.view_is) c.in_ok-sets.ensures.theirs
