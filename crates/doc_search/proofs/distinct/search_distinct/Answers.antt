use Rattle.std.proofs.Common.{true, false, length, map, ap, subst, ◌∙◌}
use Rattle.std.proofs.lemmas.Result.{IfOk-weaker}
use Rattle.filter_tree.specs.View.{view}
use Rattle.facet_counts.specs.Counts.{counted}
use Rattle.search_base.specs.declared.document.DocId.{DocId}
use Rattle.bucket_sort.specs.Opens.{log_state}
use Rattle.bucket_sort.specs.Told.{RisesAtMost}
use Rattle.bucket_sort.proofs.StepLemmas.{on-err}
use Rattle.distinct_hits.specs.Distinct.{AsksFor, AsksForSome}
use Rattle.rule_buckets.proofs.OpenLemmas.{opens-nothing, opens-either, opens-failed, opens-same}
use Rattle.doc_search.specs.Found.{AreRulesOver, opened_for, taken_in}
use Rattle.doc_search.specs.Rows.{rows_at}
use Rattle.doc_search.specs.Searched.{DocumentsView}
use Rattle.doc_search.proofs.FoundLemmas.{same-total, same-rows}
use Rattle.doc_search.proofs.DistinctLemmas.{asks-nothing, asks-all, on-ok, same-distinct, same-taken, same-opened-for, same-most}
use Rattle.doc_search.proofs.distinct.search_distinct.Goals as goal

pub returns-clause-hits : goal.returns-clause-hits
returns-clause-hits g c =
    let among = c.args.documents.now in
    let search = c.args.search in
    let tree = view search.filter.now in
    let made = c.in_ok-rules.rules in
    let over : AreRulesOver among search.query.now tree search.rules.now made =
    subst (λ (of : DocumentsView). AreRulesOver of search.query.now tree search.rules.now made) c.in_ok-snapshot.ensures c.in_ok-rules.ensures in
    let all = c.in_ok-all.ensures ∙ c.matching-matching.ensures in
    let values = g.V.Values.values c.args.values.now in
    IfOk-weaker c.with_counts.result _ _ (λ found same. ap (map (λ (id : DocId). id.0)) same ∙ c.in_ok-hits.ensures.hits
    ∙ same-distinct among search.query.now tree search.rules.now made over c.in_ok-all.all.ids all values search.window.offset search.window.limit) c.with_counts.ensures.hits

pub returns-clause-total : goal.returns-clause-total
returns-clause-total g c =
    let among = c.args.documents.now in
    let search = c.args.search in
    let tree = view search.filter.now in
    let made = c.in_ok-rules.rules in
    let over : AreRulesOver among search.query.now tree search.rules.now made =
    subst (λ (of : DocumentsView). AreRulesOver of search.query.now tree search.rules.now made) c.in_ok-snapshot.ensures c.in_ok-rules.ensures in
    IfOk-weaker c.with_counts.result _ _ (λ found same. same ∙ ap length c.matching-matching.ensures
    ∙ same-total among search.query.now tree search.rules.now made over) c.with_counts.ensures.total

pub returns-clause-facets : goal.returns-clause-facets
returns-clause-facets g c =
    let among = c.args.documents.now in
    let search = c.args.search in
    let tree = view search.filter.now in
    let made = c.in_ok-rules.rules in
    let over : AreRulesOver among search.query.now tree search.rules.now made =
    subst (λ (of : DocumentsView). AreRulesOver of search.query.now tree search.rules.now made) c.in_ok-snapshot.ensures c.in_ok-rules.ensures in
    IfOk-weaker c.with_counts.result _ _ (λ found same. same
    ∙ ap (λ ids. map (counted search.counts.most (map (rows_at among.documents) ids)) search.counts.attributes.items) c.matching-matching.ensures
    ∙ ap (λ rows. map (counted search.counts.most rows) search.counts.attributes.items) (same-rows among search.query.now tree search.rules.now made over))
    c.with_counts.ensures.facets

pub returns-clause-asks : goal.returns-clause-asks
returns-clause-asks g c =
    let among = c.args.documents.now in
    let search = c.args.search in
    let tree = view search.filter.now in
    let made = c.in_ok-rules.rules in
    let over : AreRulesOver among search.query.now tree search.rules.now made =
    subst (λ (of : DocumentsView). AreRulesOver of search.query.now tree search.rules.now made) c.in_ok-snapshot.ensures c.in_ok-rules.ensures in
    let all = c.in_ok-all.ensures ∙ c.matching-matching.ensures in
    let values = g.V.Values.values c.args.values.now in
    on-ok c.with_counts.result _
    (subst (λ ds. AsksFor g.V.Values.Asks c.args.values.now ds c.distinct_page.new.values)
    (same-taken among search.query.now tree search.rules.now made over c.in_ok-all.all.ids all values search.window.offset search.window.limit) c.in_ok-hits.ensures.asks)

pub returns-clause-err_asks : goal.returns-clause-err_asks
returns-clause-err_asks g c =
    let among = c.args.documents.now in
    let search = c.args.search in
    let tree = view search.filter.now in
    let made = c.in_ok-rules.rules in
    let over : AreRulesOver among search.query.now tree search.rules.now made =
    subst (λ (of : DocumentsView). AreRulesOver of search.query.now tree search.rules.now made) c.in_ok-snapshot.ensures c.in_ok-rules.ensures in
    let all = c.in_ok-all.ensures ∙ c.matching-matching.ensures in
    let values = g.V.Values.values c.args.values.now in
    on-err c.with_counts.result _
    (asks-all g.V.Values.Asks c.args.values.now c.distinct_page.new.values (taken_in among search values)
    (subst (λ ds. AsksFor g.V.Values.Asks c.args.values.now ds c.distinct_page.new.values)
    (same-taken among search.query.now tree search.rules.now made over c.in_ok-all.all.ids all values search.window.offset search.window.limit) c.in_ok-hits.ensures.asks))

pub returns-in_err-hits-clause-err_asks : goal.returns-in_err-hits-clause-err_asks
returns-in_err-hits-clause-err_asks g c =
    let among = c.args.documents.now in
    let search = c.args.search in
    let tree = view search.filter.now in
    let made = c.in_ok-rules.rules in
    let over : AreRulesOver among search.query.now tree search.rules.now made =
    subst (λ (of : DocumentsView). AreRulesOver of search.query.now tree search.rules.now made) c.in_ok-snapshot.ensures c.in_ok-rules.ensures in
    let all = c.in_ok-all.ensures ∙ c.matching-matching.ensures in
    let values = g.V.Values.values c.args.values.now in
    on-err _ _
    (subst (λ ds. AsksForSome g.V.Values.Asks c.args.values.now ds c.distinct_page.new.values)
    (same-taken among search.query.now tree search.rules.now made over c.in_ok-all.all.ids all values search.window.offset search.window.limit) c.in_err-hits.ensures.err_asks)

pub returns-in_err-snapshot-clause-err_asks : goal.returns-in_err-snapshot-clause-err_asks
returns-in_err-snapshot-clause-err_asks g c =
    on-err _ _ (asks-nothing g.V.Values.Asks c.args.values.now (taken_in c.args.documents.now c.args.search (g.V.Values.values c.args.values.now)))

pub returns-in_err-rules-clause-err_asks : goal.returns-in_err-rules-clause-err_asks
returns-in_err-rules-clause-err_asks g c =
    on-err _ _ (asks-nothing g.V.Values.Asks c.args.values.now (taken_in c.args.documents.now c.args.search (g.V.Values.values c.args.values.now)))

pub returns-in_err-all-clause-err_asks : goal.returns-in_err-all-clause-err_asks
returns-in_err-all-clause-err_asks g c =
    on-err _ _ (asks-nothing g.V.Values.Asks c.args.values.now (taken_in c.args.documents.now c.args.search (g.V.Values.values c.args.values.now)))

pub returns-in_err-snapshot-clause-opens : goal.returns-in_err-snapshot-clause-opens
returns-in_err-snapshot-clause-opens g c =
    let all = opened_for c.args.documents.now c.args.search (g.V.Values.values c.args.values.now) in
    let log = log_state ((g.dyn-1.0.entry c.args.log.now.vtable).1.told c.args.log.now.value) c.args.openings.now in
    opens-failed _ c.from_residual.result all log log c.from_residual.ensures.1 (opens-nothing all log)

pub returns-in_err-rules-clause-opens : goal.returns-in_err-rules-clause-opens
returns-in_err-rules-clause-opens g c =
    let all = opened_for c.args.documents.now c.args.search (g.V.Values.values c.args.values.now) in
    let log = log_state ((g.dyn-1.0.entry c.args.log.now.vtable).1.told c.args.log.now.value) c.args.openings.now in
    opens-failed _ c.from_residual-in_err-rules.result all log log c.from_residual-in_err-rules.ensures.1 (opens-nothing all log)

pub returns-in_err-all-clause-opens : goal.returns-in_err-all-clause-opens
returns-in_err-all-clause-opens g c =
    let all = opened_for c.args.documents.now c.args.search (g.V.Values.values c.args.values.now) in
    let log = log_state ((g.dyn-1.0.entry c.args.log.now.vtable).1.told c.args.log.now.value) c.args.openings.now in
    opens-failed _ c.from_residual-in_err-all.result all log log c.from_residual-in_err-all.ensures.1 (opens-nothing all log)

pub returns-in_err-hits-clause-opens : goal.returns-in_err-hits-clause-opens
returns-in_err-hits-clause-opens g c =
    let among = c.args.documents.now in
    let search = c.args.search in
    let tree = view search.filter.now in
    let made = c.in_ok-rules.rules in
    let over : AreRulesOver among search.query.now tree search.rules.now made =
    subst (λ (of : DocumentsView). AreRulesOver of search.query.now tree search.rules.now made) c.in_ok-snapshot.ensures c.in_ok-rules.ensures in
    let all = c.in_ok-all.ensures ∙ c.matching-matching.ensures in
    let values = g.V.Values.values c.args.values.now in
    let old = log_state ((g.dyn-1.0.entry c.args.log.now.vtable).1.told c.args.log.now.value) c.args.openings.now in
    let new = log_state ((g.dyn-1.0.entry c.distinct_page.new.log.vtable).1.told c.distinct_page.new.log.value) c.distinct_page.new.openings in
    opens-failed _ c.from_residual-in_err-hits.result (opened_for among search values) old new c.from_residual-in_err-hits.ensures.1
    (opens-same true _ (opened_for among search values) old new
    (same-opened-for among search.query.now tree search.rules.now made over c.in_ok-all.all.ids all values search.window.offset search.window.limit)
    (c.in_err-hits.ensures.err_told, c.in_err-hits.ensures.err_steps))

pub returns-clause-opens : goal.returns-clause-opens
returns-clause-opens g c =
    let among = c.args.documents.now in
    let search = c.args.search in
    let tree = view search.filter.now in
    let made = c.in_ok-rules.rules in
    let over : AreRulesOver among search.query.now tree search.rules.now made =
    subst (λ (of : DocumentsView). AreRulesOver of search.query.now tree search.rules.now made) c.in_ok-snapshot.ensures c.in_ok-rules.ensures in
    let all = c.in_ok-all.ensures ∙ c.matching-matching.ensures in
    let values = g.V.Values.values c.args.values.now in
    let old = log_state ((g.dyn-1.0.entry c.args.log.now.vtable).1.told c.args.log.now.value) c.args.openings.now in
    let new = log_state ((g.dyn-1.0.entry c.distinct_page.new.log.vtable).1.told c.distinct_page.new.log.value) c.distinct_page.new.openings in
    opens-either _ (opened_for among search values) old new
    (opens-same false _ (opened_for among search values) old new
    (same-opened-for among search.query.now tree search.rules.now made over c.in_ok-all.all.ids all values search.window.offset search.window.limit)
    (c.in_ok-hits.ensures.told, c.in_ok-hits.ensures.steps))

pub returns-in_err-hits-clause-few : goal.returns-in_err-hits-clause-few
returns-in_err-hits-clause-few g c =
    let among = c.args.documents.now in
    let search = c.args.search in
    let tree = view search.filter.now in
    let made = c.in_ok-rules.rules in
    let over : AreRulesOver among search.query.now tree search.rules.now made =
    subst (λ (of : DocumentsView). AreRulesOver of search.query.now tree search.rules.now made) c.in_ok-snapshot.ensures c.in_ok-rules.ensures in
    let all = c.in_ok-all.ensures ∙ c.matching-matching.ensures in
    let values = g.V.Values.values c.args.values.now in
    subst (λ most. RisesAtMost c.args.openings.now c.distinct_page.new.openings most)
    (same-most among search.query.now tree search.rules.now made over c.in_ok-all.all.ids all values search.window.offset search.window.limit) c.in_err-hits.ensures.few

pub returns-clause-few : goal.returns-clause-few
returns-clause-few g c =
    let among = c.args.documents.now in
    let search = c.args.search in
    let tree = view search.filter.now in
    let made = c.in_ok-rules.rules in
    let over : AreRulesOver among search.query.now tree search.rules.now made =
    subst (λ (of : DocumentsView). AreRulesOver of search.query.now tree search.rules.now made) c.in_ok-snapshot.ensures c.in_ok-rules.ensures in
    let all = c.in_ok-all.ensures ∙ c.matching-matching.ensures in
    let values = g.V.Values.values c.args.values.now in
    subst (λ most. RisesAtMost c.args.openings.now c.distinct_page.new.openings most)
    (same-most among search.query.now tree search.rules.now made over c.in_ok-all.all.ids all values search.window.offset search.window.limit) c.in_ok-hits.ensures.few
