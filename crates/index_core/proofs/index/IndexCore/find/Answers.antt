use Rattle.std.proofs.Common.{◌+◌, ◌≤◌, ap, subst, ◌∙◌, min, arith, true, false}
use Rattle.doc_store.specs.Sound.{IsSound}
use Rattle.bucket_sort.specs.Opens.{log_state}
use Rattle.bucket_sort.proofs.StepLemmas.{on-err}
use Rattle.rule_buckets.proofs.OpenLemmas.{opens-at_most, opens-same as opens-as}
use Rattle.index_changes.specs.Index.{Index}
use Rattle.index_core.specs.Opened.{opened_in}
use Rattle.index_core.proofs.EachOnce.{opened-few}
use Rattle.index_core.proofs.Finding.{finds}
use Rattle.index_core.proofs.Reading.{found-as, opened-same, compared-same}
use Rattle.index_core.proofs.index.IndexCore.find.Goals as goal

pub returns-clause-found : goal.returns-clause-found
returns-clause-found g c =
    let now = c.args.self.now in
    let call = c.args.call.now in
    let search = c.in_ok-search.search in
    let sound : IsSound now.store = subst (λ (i : Index). IsSound i.store) c.self.view_is c.self.invariant.rows.sound in
    let found = found-as now call search sound c.in_ok-search.ensures _ _ c.distinct_attribute-attribute.ensures c.in_ok-documents.ensures c.in_ok-found.found c.in_ok-found.ensures.found in
    finds now call search sound c.in_ok-search.ensures c.in_ok-found.found _ _ found
    (c.min.ensures ∙ ap (min c.in_ok-found.found.total) (c.max_total_hits-most.ensures.number ∙ ap (λ (i : Index). i.settings.max_total_hits) c.self.view_is))
    c.if_asked.ensures

pub returns-in_err-found-clause-starved : goal.returns-in_err-found-clause-starved
returns-in_err-found-clause-starved g c =
    let now = c.args.self.now in
    let call = c.args.call.now in
    let search = c.in_ok-search.search in
    let sound : IsSound now.store = subst (λ (i : Index). IsSound i.store) c.self.view_is c.self.invariant.rows.sound in
    let old = log_state ((g.dyn-1.0.entry c.args.log.now.vtable).1.told c.args.log.now.value) c.args.openings.now in
    let new = log_state ((g.dyn-1.0.entry c.found.new.log.vtable).1.told c.found.new.log.value) c.found.new.openings in
    let same = opened-same now call search sound c.in_ok-search.ensures _ _ c.distinct_attribute-attribute.ensures c.in_ok-documents.ensures in
    on-err c.from_residual-in_err-found.result _ (opens-as true _ (opened_in now call) old new same c.in_err-found.ensures.opens)

pub returns-in_err-found-clause-few : goal.returns-in_err-found-clause-few
returns-in_err-found-clause-few g c =
    let now = c.args.self.now in
    let call = c.args.call.now in
    let search = c.in_ok-search.search in
    let sound : IsSound now.store = subst (λ (i : Index). IsSound i.store) c.self.view_is c.self.invariant.rows.sound in
    let old = log_state ((g.dyn-1.0.entry c.args.log.now.vtable).1.told c.args.log.now.value) c.args.openings.now in
    let new = log_state ((g.dyn-1.0.entry c.found.new.log.vtable).1.told c.found.new.log.value) c.found.new.openings in
    let same = opened-same now call search sound c.in_ok-search.ensures _ _ c.distinct_attribute-attribute.ensures c.in_ok-documents.ensures in
    let bound = opened-few now call sound in
    let rises = opens-at_most true (opened_in now call) old new (opens-as true _ (opened_in now call) old new same c.in_err-found.ensures.opens) in
    omega (arith, rises, bound)

pub returns-in_err-found-clause-at_most : goal.returns-in_err-found-clause-at_most
returns-in_err-found-clause-at_most g c =
    let now = c.args.self.now in
    let call = c.args.call.now in
    let search = c.in_ok-search.search in
    let sound : IsSound now.store = subst (λ (i : Index). IsSound i.store) c.self.view_is c.self.invariant.rows.sound in
    subst (λ n. c.found.new.fetches ≤ c.args.fetches.now + n)
    (compared-same now call search sound c.in_ok-search.ensures _ _ c.distinct_attribute-attribute.ensures c.in_ok-documents.ensures) c.found.ensures.at_most

pub returns-clause-opens : goal.returns-clause-opens
returns-clause-opens g c =
    let now = c.args.self.now in
    let call = c.args.call.now in
    let search = c.in_ok-search.search in
    let sound : IsSound now.store = subst (λ (i : Index). IsSound i.store) c.self.view_is c.self.invariant.rows.sound in
    let old = log_state ((g.dyn-1.0.entry c.args.log.now.vtable).1.told c.args.log.now.value) c.args.openings.now in
    let new = log_state ((g.dyn-1.0.entry c.found.new.log.vtable).1.told c.found.new.log.value) c.found.new.openings in
    let same = opened-same now call search sound c.in_ok-search.ensures _ _ c.distinct_attribute-attribute.ensures c.in_ok-documents.ensures in
    opens-as false _ (opened_in now call) old new same c.in_ok-found.ensures.opens

pub returns-clause-few : goal.returns-clause-few
returns-clause-few g c =
    let now = c.args.self.now in
    let call = c.args.call.now in
    let search = c.in_ok-search.search in
    let sound : IsSound now.store = subst (λ (i : Index). IsSound i.store) c.self.view_is c.self.invariant.rows.sound in
    let old = log_state ((g.dyn-1.0.entry c.args.log.now.vtable).1.told c.args.log.now.value) c.args.openings.now in
    let new = log_state ((g.dyn-1.0.entry c.found.new.log.vtable).1.told c.found.new.log.value) c.found.new.openings in
    let same = opened-same now call search sound c.in_ok-search.ensures _ _ c.distinct_attribute-attribute.ensures c.in_ok-documents.ensures in
    let bound = opened-few now call sound in
    let rises = opens-at_most false (opened_in now call) old new (opens-as false _ (opened_in now call) old new same c.in_ok-found.ensures.opens) in
    omega (arith, rises, bound)

pub returns-clause-at_most : goal.returns-clause-at_most
returns-clause-at_most g c =
    let now = c.args.self.now in
    let call = c.args.call.now in
    let search = c.in_ok-search.search in
    let sound : IsSound now.store = subst (λ (i : Index). IsSound i.store) c.self.view_is c.self.invariant.rows.sound in
    subst (λ n. c.found.new.fetches ≤ c.args.fetches.now + n)
    (compared-same now call search sound c.in_ok-search.ensures _ _ c.distinct_attribute-attribute.ensures c.in_ok-documents.ensures) c.found.ensures.at_most
