use Rattle.std.proofs.Common.{List, [], map, ap, subst, ◌∙◌}
use Rattle.filter_tree.specs.View.{view}
use Rattle.search_base.specs.declared.rule.Rule.{Rule}
use Rattle.list_facets.specs.Rows.{rows_asked}
use Rattle.doc_search.specs.Found.{AreRulesOver}
use Rattle.doc_search.specs.Rows.{rows_at}
use Rattle.doc_search.specs.Searched.{DocumentsView}
use Rattle.doc_search.proofs.FoundLemmas.{are-rows, same-rows}
use Rattle.doc_search.proofs.values.facet_values.Goals as goal

pub returns : goal.returns
returns c =
    let among = c.args.documents.now in
    let query = c.args.query.now in
    let tree = view c.args.filter.now in
    let asked = c.args.asked.now in
    let none : List Rule = [] in
    let made = c.in_ok-rules.rules in
    let over : AreRulesOver among query tree none made =
    subst (λ (of : DocumentsView). AreRulesOver of query tree none made) c.new-snapshot.ensures c.in_ok-rules.ensures in
    c.in_ok-rows.ensures (rows_at among.documents) (are-rows among.documents)
    ∙ ap (λ ids. rows_asked asked (map (rows_at among.documents) ids)) c.matching.ensures
    ∙ ap (rows_asked asked) (same-rows among query tree none made over)
