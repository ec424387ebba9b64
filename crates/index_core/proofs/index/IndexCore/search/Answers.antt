use Rattle.std.proofs.Common.{◌≡◌, ◌+◌, ◌-◌, min, cond, [], false, Ok, ap, sym, subst, ◌∙◌, length, map}
use Rattle.std.specs.List.{filter_map}
use Rattle.std.specs.Option.{option_map}
use Rattle.search_base.specs.Terms.{terms_of}
use Rattle.search_base.specs.Trying.{◌>>◌}
use Rattle.search_base.specs.declared.document.DocId.{DocId}
use Rattle.index_changes.specs.Index.{Index}
use Rattle.search_call.specs.SearchView.{SearchView}
use Rattle.search_call.specs.FormatView.{shows_matches}
use Rattle.search_call.specs.Windows.{offset_of}
use Rattle.index_core.specs.Distinct.{distinct_attribute_in}
use Rattle.index_core.specs.Found.{found_in, asked, candidates, hit_of, most_hits, window_size}
use Rattle.index_core.proofs.EachOnce.{asked-full}
use Rattle.search_settings.specs.SearchFaults.{search_fault}
use Rattle.search_result.specs.View.{hit_view}
use Rattle.index_core.specs.Shown.{hit_at}
use Rattle.bucket_sort.specs.Opens.{log_state}
use Rattle.index_core.proofs.Tracing.{opens-fine}
use Rattle.index_core.proofs.Finding.{filter-mapped, found-same, length-map}
use Rattle.index_core.proofs.Showing.{opens-none-starved, terms-same}
use Rattle.index_core.proofs.index.IndexCore.search.Goals as goal

pub returns-clause-fetches : goal.returns-clause-fetches
returns-clause-fetches g c none =
    let f = c.in_ok-ids.ensures.found in
    let now = c.args.self.now in
    let call = c.args.call.now in
    let ids = c.as_slice.result.now in
    c.in_ok-hits.ensures.fetches
    ∙ ap (λ n. n + length ids) (c.find.ensures.none_read none)
    ∙ ap (λ n. c.args.fetches.now + n) (sym (length-map (λ (id : DocId). id.0) ids) ∙ ap (λ is. length (map (λ (id : DocId). id.0) is)) c.as_slice.ensures.value ∙ f.number ∙ ap length (sym f.hits)
    ∙ ap (λ is. length (filter_map (hit_at now call) (map (λ (id : DocId). id.0) is))) (sym c.as_slice.ensures.value)
    ∙ ap length (sym (filter-mapped (λ (id : DocId). id.0) (hit_at now call) ids)) ∙ sym (ap length c.in_ok-hits.ensures.hits) ∙ length-map hit_view c.in_ok-hits.hits.items)

pub returns-clause-full : goal.returns-clause-full
returns-clause-full g c =
    let f = c.in_ok-ids.ensures.found in
    let now = c.args.self.now in
    let call = c.args.call.now in
    let ids = c.as_slice.result.now in
    let index : Index = record { key = c.self.inside.key; store = c.self.inside.store.content; settings = c.self.inside.settings } in
    let hits : map hit_view c.in_ok-hits.hits.items ≡ (found_in now call).hits =
    c.in_ok-hits.ensures.hits ∙ filter-mapped (λ (id : DocId). id.0) (hit_at now call) ids ∙ ap (λ is. filter_map (hit_at now call) (map (λ (id : DocId). id.0) is)) c.as_slice.ensures.value ∙ f.hits in
    sym (length-map hit_view c.in_ok-hits.hits.items) ∙ ap length hits ∙ length-map (hit_of call) (asked now call)
    ∙ subst (λ (i : Index). length (asked i call) ≡ min (window_size (most_hits i) call) (length (candidates i call) - offset_of call.window)) c.self.view_is
    (asked-full index call c.self.invariant.rows.sound (distinct_attribute_in index call))

pub returns-clause-terms : goal.returns-clause-terms
returns-clause-terms g c =
    terms-same (shows_matches c.args.call.now.formats) c.in_ok-terms.terms.items _ _
    (c.in_ok-terms.ensures ∙ ap (λ (v : SearchView). cond (shows_matches v.formats) (terms_of c.in_ok-ranking.ranking.query) []) c.call.view_is) c.in_ok-ranking.ensures.terms

pub returns-clause-answer : goal.returns-clause-answer
returns-clause-answer g c =
    let f = c.in_ok-ids.ensures.found in
    let now = c.args.self.now in
    let call = c.args.call.now in
    let ids = c.as_slice.result.now in
    let none = sym (ap (λ (i : Index). search_fault i.settings call) c.self.view_is) ∙ c.in_ok-check_search.ensures in
    ap (λ o. o >> Ok (found_in now call)) none
    ∙ ap Ok (sym (found-same (found_in now call) (map hit_view c.in_ok-hits.hits.items) c.in_ok-ids.field-0.total (option_map (λ facets. facets.items) c.in_ok-ids.field-0.facets)
    (c.in_ok-hits.ensures.hits ∙ filter-mapped (λ (id : DocId). id.0) (hit_at now call) ids ∙ ap (λ is. filter_map (hit_at now call) (map (λ (id : DocId). id.0) is)) c.as_slice.ensures.value ∙ f.hits) f.total f.facets))

pub returns-in_err-hits-clause-opens : goal.returns-in_err-hits-clause-opens
returns-in_err-hits-clause-opens g c =
    let now = c.args.self.now in
    let call = c.args.call.now in
    let none = sym (ap (λ (i : Index). search_fault i.settings call) c.self.view_is) ∙ c.in_ok-check_search.ensures in
    opens-fine now call _ (log_state ((g.dyn-1.0.entry c.args.log.now.vtable).1.told c.args.log.now.value) c.args.openings.now) (log_state ((g.dyn-1.0.entry c.find.new.log.vtable).1.told c.find.new.log.value) c.find.new.openings) none
    c.in_ok-ids.ensures.opens

pub returns-clause-opens : goal.returns-clause-opens
returns-clause-opens g c =
    let now = c.args.self.now in
    let call = c.args.call.now in
    let none = sym (ap (λ (i : Index). search_fault i.settings call) c.self.view_is) ∙ c.in_ok-check_search.ensures in
    opens-fine now call false (log_state ((g.dyn-1.0.entry c.args.log.now.vtable).1.told c.args.log.now.value) c.args.openings.now) (log_state ((g.dyn-1.0.entry c.find.new.log.vtable).1.told c.find.new.log.value) c.find.new.openings) none
    c.in_ok-ids.ensures.opens

pub returns-in_err-terms-clause-opens : goal.returns-in_err-terms-clause-opens
returns-in_err-terms-clause-opens g c = opens-none-starved c.from_residual-in_err-terms.result _ (λ f q. q) _ _ c.from_residual-in_err-terms.ensures.1
