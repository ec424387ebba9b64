use Rattle.std.proofs.Common.{true, false, length, map, ap, subst, ◌∙◌}
use Rattle.std.proofs.lemmas.Result.{IfOk-weaker}
use Rattle.filter_tree.specs.View.{view}
use Rattle.facet_counts.specs.Counts.{counted}
use Rattle.search_base.specs.declared.document.DocId.{DocId}
use Rattle.bucket_sort.specs.Opens.{log_state}
use Rattle.rule_buckets.specs.Matches as lists
use Rattle.rule_buckets.specs.Matches.{ids_of, hits_of}
use Rattle.rule_buckets.proofs.OpenLemmas.{opens-nothing, opens-either, opens-failed, opens-same}
use Rattle.doc_search.specs.Found.{AreRulesOver, opened_in}
use Rattle.doc_search.specs.Rows.{rows_at}
use Rattle.doc_search.specs.Searched.{DocumentsView}
use Rattle.doc_search.proofs.FoundLemmas.{rows_among, same-matches, same-total, same-opened, same-rows}
use Rattle.doc_search.proofs.found.search_documents.Goals as goal

pub returns-clause-hits : goal.returns-clause-hits
returns-clause-hits g c =
    let among = c.args.documents.now in
    let search = c.args.search in
    let tree = view search.filter.now in
    let made = c.in_ok-rules.rules in
    let over : AreRulesOver among search.query.now tree search.rules.now made =
    subst (λ (of : DocumentsView). AreRulesOver of search.query.now tree search.rules.now made) c.in_ok-snapshot.ensures c.in_ok-rules.ensures in
    IfOk-weaker c.with_counts.result _ _ (λ found same. ap (map (λ (id : DocId). id.0)) same ∙ c.in_ok-hits.ensures.hits
    ∙ ap (λ matches. ids_of (hits_of matches search.window.offset search.window.limit)) (same-matches among search.query.now tree search.rules.now made over))
    c.with_counts.ensures.hits

pub returns-clause-total : goal.returns-clause-total
returns-clause-total g c =
    let among = c.args.documents.now in
    let search = c.args.search in
    let tree = view search.filter.now in
    let made = c.in_ok-rules.rules in
    let over : AreRulesOver among search.query.now tree search.rules.now made =
    subst (λ (of : DocumentsView). AreRulesOver of search.query.now tree search.rules.now made) c.in_ok-snapshot.ensures c.in_ok-rules.ensures in
    IfOk-weaker c.with_counts.result _ _ (λ found same. same ∙ ap length c.matching.ensures
    ∙ same-total among search.query.now tree search.rules.now made over) c.with_counts.ensures.total

pub returns-clause-facets : goal.returns-clause-facets
returns-clause-facets g c =
    let among = c.args.documents.now in
    let search = c.args.search in
    let tree = view search.filter.now in
    let made = c.in_ok-rules.rules in
    let over : AreRulesOver among search.query.now tree search.rules.now made =
    subst (λ (of : DocumentsView). AreRulesOver of search.query.now tree search.rules.now made) c.in_ok-snapshot.ensures c.in_ok-rules.ensures in
    IfOk-weaker c.with_counts.result _ _ (λ found same. same
    ∙ ap (λ ids. map (counted search.counts.most (map (rows_at among.documents) ids)) search.counts.attributes.items) c.matching.ensures
    ∙ ap (λ rows. map (counted search.counts.most rows) search.counts.attributes.items) (same-rows among search.query.now tree search.rules.now made over))
    c.with_counts.ensures.facets

pub returns-in_err-snapshot-clause-opens : goal.returns-in_err-snapshot-clause-opens
returns-in_err-snapshot-clause-opens g c =
    let all = opened_in c.args.documents.now c.args.search in
    let log = log_state ((g.dyn-1.0.entry c.args.log.now.vtable).1.told c.args.log.now.value) c.args.openings.now in
    opens-failed _ c.from_residual.result all log log c.from_residual.ensures.1 (opens-nothing all log)

pub returns-in_err-rules-clause-opens : goal.returns-in_err-rules-clause-opens
returns-in_err-rules-clause-opens g c =
    let all = opened_in c.args.documents.now c.args.search in
    let log = log_state ((g.dyn-1.0.entry c.args.log.now.vtable).1.told c.args.log.now.value) c.args.openings.now in
    opens-failed _ c.from_residual-in_err-rules.result all log log c.from_residual-in_err-rules.ensures.1 (opens-nothing all log)

pub returns-in_err-hits-clause-opens : goal.returns-in_err-hits-clause-opens
returns-in_err-hits-clause-opens g c =
    let among = c.args.documents.now in
    let search = c.args.search in
    let tree = view search.filter.now in
    let made = c.in_ok-rules.rules in
    let over : AreRulesOver among search.query.now tree search.rules.now made =
    subst (λ (of : DocumentsView). AreRulesOver of search.query.now tree search.rules.now made) c.in_ok-snapshot.ensures c.in_ok-rules.ensures in
    let old = log_state ((g.dyn-1.0.entry c.args.log.now.vtable).1.told c.args.log.now.value) c.args.openings.now in
    let new = log_state ((g.dyn-1.0.entry c.page.new.log.vtable).1.told c.page.new.log.value) c.page.new.openings in
    let here = lists.opened_in rows_among made search.window in
    let same = same-opened among search.query.now tree search.rules.now made over search.window in
    opens-failed _ c.from_residual-in_err-hits.result (opened_in among search) old new c.from_residual-in_err-hits.ensures.1
    (opens-same true here (opened_in among search) old new same c.in_err-hits.ensures.opens)

pub returns-clause-opens : goal.returns-clause-opens
returns-clause-opens g c =
    let among = c.args.documents.now in
    let search = c.args.search in
    let tree = view search.filter.now in
    let made = c.in_ok-rules.rules in
    let over : AreRulesOver among search.query.now tree search.rules.now made =
    subst (λ (of : DocumentsView). AreRulesOver of search.query.now tree search.rules.now made) c.in_ok-snapshot.ensures c.in_ok-rules.ensures in
    let old = log_state ((g.dyn-1.0.entry c.args.log.now.vtable).1.told c.args.log.now.value) c.args.openings.now in
    let new = log_state ((g.dyn-1.0.entry c.page.new.log.vtable).1.told c.page.new.log.value) c.page.new.openings in
    let here = lists.opened_in rows_among made search.window in
    let same = same-opened among search.query.now tree search.rules.now made over search.window in
    opens-either _ (opened_in among search) old new (opens-same false here (opened_in among search) old new same c.in_ok-hits.ensures.opens)
