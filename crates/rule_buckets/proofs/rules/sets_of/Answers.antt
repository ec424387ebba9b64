use Rattle.std.proofs.Common.{length, map, sym, ap, subst, ◌∙◌}
use Rattle.std.proofs.lemmas.Bool.{eqb-true, eqb-false}
use Rattle.doc_sets.specs.Sets.{has, intersection}
use Rattle.doc_sets.specs.SetView.{SetView}
use Rattle.bucket_sort.specs.Buckets.{AreAmong}
use Rattle.rule_buckets.specs.Rules.{RulesView, AreTheirs, IsCount}
use Rattle.rule_buckets.proofs.Within.{within-count, within-theirs, within-all}
use Rattle.rule_buckets.proofs.OneLevel.{several, few-levels, all-theirs, left-one, one-counts}
use Rattle.rule_buckets.proofs.rules.sets_of.Goals as goal

pub returns-clause-theirs : goal.returns-clause-theirs
returns-clause-theirs g c =
    let rows = g.S.RuleSource.rows in
    let is = c.rules.inside in
    let are = c.in_ok-sets.ensures ∙ ap (map (λ (s : SetView). intersection s.ids c.args.universe.ids)) c.as_slice-2.ensures.value in
    subst (λ (v : RulesView g.row.S.Denot). AreTheirs (rows v.source) v.graph c.in_ok-sets.sets.items) c.rules.view_is
    (within-theirs is.levels.items c.in_ok-sets.sets.items c.args.universe.ids are (rows is.source.now) is.graph.now is.matching.ids (several (rows is.source.now) is.graph.now is.matching.ids is.levels.items c.rules.invariant.1 (λ z. eqb-false _ _ (sym c.are_none.ensures ∙ c.if-are_none.false) (ap length c.as_slice.ensures.value ∙ z))))

pub returns-clause-all : goal.returns-clause-all
returns-clause-all g c =
    let rows = g.S.RuleSource.rows in
    let is = c.rules.inside in
    let are = c.in_ok-sets.ensures ∙ ap (map (λ (s : SetView). intersection s.ids c.args.universe.ids)) c.as_slice-2.ensures.value in
    within-all is.levels.items c.in_ok-sets.sets.items c.args.universe.ids are (rows is.source.now) is.graph.now is.matching.ids (several (rows is.source.now) is.graph.now is.matching.ids is.levels.items c.rules.invariant.1 (λ z. eqb-false _ _ (sym c.are_none.ensures ∙ c.if-are_none.false) (ap length c.as_slice.ensures.value ∙ z))) c.rules.invariant.2
    (subst (λ (v : RulesView g.row.S.Denot). AreAmong (has v.matching) c.args.universe.ids) (sym c.rules.view_is) c.requires) c.len-len.ensures.increasing

pub returns-clause-count : goal.returns-clause-count
returns-clause-count g c =
    let is = c.rules.inside in
    let are = c.in_ok-sets.ensures ∙ ap (map (λ (s : SetView). intersection s.ids c.args.universe.ids)) c.as_slice-2.ensures.value in
    subst (λ (v : RulesView g.row.S.Denot). IsCount v.graph.levels (length c.in_ok-sets.sets.items)) c.rules.view_is
    (subst (IsCount is.graph.now.levels) (sym (within-count is.levels.items c.in_ok-sets.sets.items c.args.universe.ids are)) (several (g.S.RuleSource.rows is.source.now) is.graph.now is.matching.ids is.levels.items c.rules.invariant.1 (λ z. eqb-false _ _ (sym c.are_none.ensures ∙ c.if-are_none.false) (ap length c.as_slice.ensures.value ∙ z))).count)

pub returns-then-are_none-clause-theirs : goal.returns-then-are_none-clause-theirs
returns-then-are_none-clause-theirs g c =
    let rows = g.S.RuleSource.rows in
    let is = c.rules.inside in
    subst (λ (v : RulesView g.row.S.Denot). AreTheirs (rows v.source) v.graph c.in_ok-one.one.items) c.rules.view_is
    (all-theirs (rows is.source.now) is.graph.now is.matching.ids c.in_ok-one.one.items c.args.universe c.in_ok-one.ensures
    (few-levels (rows is.source.now) is.graph.now is.matching.ids is.levels.items c.rules.invariant.1 (sym (ap length c.as_slice.ensures.value) ∙ eqb-true _ _ (sym c.are_none.ensures ∙ c.if-are_none.true))) c.rules.invariant.2
    (subst (λ (v : RulesView g.row.S.Denot). AreAmong (has v.matching) c.args.universe.ids) (sym c.rules.view_is) c.requires))

pub returns-then-are_none-clause-all : goal.returns-then-are_none-clause-all
returns-then-are_none-clause-all g c = left-one c.in_ok-one.one.items c.args.universe c.in_ok-one.ensures c.len-len.ensures.increasing

pub returns-then-are_none-clause-count : goal.returns-then-are_none-clause-count
returns-then-are_none-clause-count g c =
    let rows = g.S.RuleSource.rows in
    let is = c.rules.inside in
    subst (λ (v : RulesView g.row.S.Denot). IsCount v.graph.levels (length c.in_ok-one.one.items)) c.rules.view_is
    (subst (IsCount is.graph.now.levels) (sym (ap length c.in_ok-one.ensures))
    (one-counts is.graph.now.levels (few-levels (rows is.source.now) is.graph.now is.matching.ids is.levels.items c.rules.invariant.1 (sym (ap length c.as_slice.ensures.value) ∙ eqb-true _ _ (sym c.are_none.ensures ∙ c.if-are_none.true)))))
