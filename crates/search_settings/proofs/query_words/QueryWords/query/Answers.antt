use Rattle.std.proofs.Common.{List, ap, ap₂, sym, subst, ◌∙◌}
use Rattle.search_base.specs.Query.{tuple_under}
use Rattle.search_base.specs.Terms.{terms_of, terms_under, HaveSame}
use Rattle.search_base.specs.TermView.{TermView}
use Rattle.query_graph.specs.ItemReadings.{query_for}
use Rattle.query_graph.specs.Items.{items_of}
use Rattle.search_settings.specs.QueryWords.{AreWordsOf}
use Rattle.search_settings.proofs.query_words.QueryWords.query.Goals as goal

pub returns-clause-costs : goal.returns-clause-costs
returns-clause-costs c = λ settings are rows rules.
    let words = subst (λ v. AreWordsOf v settings) (sym c.self.view_is) are in
    c.in_ok-graph.ensures.costs rows rules
    ∙ ap₂ (λ table list. tuple_under rows (query_for c.args.strategy table list) rules) words.synonyms
    (c.in_ok-items.ensures.items ∙ ap₂ items_of c.as_str.ensures (c.as_slice.ensures.value ∙ words.stop_words))

pub returns-clause-terms : goal.returns-clause-terms
returns-clause-terms c = λ settings are.
    let words = subst (λ v. AreWordsOf v settings) (sym c.self.view_is) are in
    subst (λ (terms : List TermView). HaveSame (terms_of c.in_ok-graph.graph) terms)
    (ap₂ (λ table list. terms_under (query_for c.args.strategy table list)) words.synonyms
    (c.in_ok-items.ensures.items ∙ ap₂ items_of c.as_str.ensures (c.as_slice.ensures.value ∙ words.stop_words)))
    c.in_ok-graph.ensures.terms
