use Rattle.std.proofs.Common.{◌≡◌, true, false, Ok, ap, sym, ◌∙◌}
use Rattle.index_core.specs.Terms.{terms_in}
use Rattle.request_replies.proofs.TermLemmas.{found-alike}
use Rattle.bucket_sort.specs.Opens.{Opens, log_state, is_starved}
use Rattle.index_core.specs.Opened.{opened, most_opened}
use Rattle.index_core.proofs.Opening.{opens-some, opens-either}
use Rattle.search_result.specs.View.{found_view}
use Rattle.search_routes.specs.Found.{shown_data}
use Rattle.named_indexes.specs.Indexes.{index_at}
use Rattle.search_routes.specs.Machine.{found_shown}
use Rattle.search_routes.specs.Openings.{there_opened}
use Rattle.index_core.specs.Fetches.{documents_needed}
use Rattle.search_routes.proofs.NeedLemmas.{named_most}
use Rattle.search_routes.proofs.OpenLemmas.{opens-named}
use Rattle.search_routes.proofs.ReadLemmas.{gives_searched}
use Rattle.search_routes.proofs.searching.search_index.Goals as goal

pub returns-clause-fetched : goal.returns-clause-fetched
returns-clause-fetched g c =
    let call = c.args.call.now in
    named_most c.args.uid.now c.args.indexes.now c.in_ok-index.index.now (λ i. documents_needed i call) c.args.fetches.now c.search.new.fetches c.in_ok-index.ensures c.search.ensures.at_most

pub returns-in-Err-NoMemory-clause-fetched : goal.returns-in-Err-NoMemory-clause-fetched
returns-in-Err-NoMemory-clause-fetched g c =
    let call = c.args.call.now in
    named_most c.args.uid.now c.args.indexes.now c.in_ok-index.index.now (λ i. documents_needed i call) c.args.fetches.now c.search.new.fetches c.in_ok-index.ensures c.search.ensures.at_most

pub returns-clause-answer : goal.returns-clause-answer
returns-clause-answer g c =
    let call = c.args.call.now in
    let i = c.in_ok-index.index.now in
    let terms = c.in-Ok.found.terms.items in
    let f = found_view c.in-Ok.found in
    let same : found_shown call c.settings.result.now terms f ≡ found_shown call i.settings (terms_in i call) f =
    ap (λ s. found_shown call s terms f) c.settings.ensures
    ∙ found-alike terms (terms_in i call) c.in-Ok.ensures.terms i.settings.displayed_attributes call f in
    gives_searched (shown_data call) c.args.indexes.now c.args.uid.now call c.in_ok-index.index.now (found_view c.in-Ok.found) (Ok (record { settings = c.settings.result; found = c.in-Ok.found })) c.in_ok-index.ensures c.in-Ok.ensures.answer (ap Ok (sym same))

pub returns-in-Err-Refused-clause-opens : goal.returns-in-Err-Refused-clause-opens
returns-in-Err-Refused-clause-opens g c =
    let call = c.args.call.now in
    let opens : Opens false (opened c.in_ok-index.index.now call)
    (log_state ((g.dyn-1.0.entry c.args.log.now.vtable).1.told c.args.log.now.value) c.args.openings.now)
    (log_state ((g.dyn-1.0.entry c.search.new.log.vtable).1.told c.search.new.log.value) c.search.new.openings) = rw c.in-Err-Refused.field-0-is at c.in-Err-Refused.ensures.opens in
    opens-named c.args.uid.now c.args.indexes.now c.in_ok-index.index.now (λ i. opened i call) false
    (log_state ((g.dyn-1.0.entry c.args.log.now.vtable).1.told c.args.log.now.value) c.args.openings.now)
    (log_state ((g.dyn-1.0.entry c.search.new.log.vtable).1.told c.search.new.log.value) c.search.new.openings) c.in_ok-index.ensures opens

pub returns-in-Err-NoMemory-clause-opens : goal.returns-in-Err-NoMemory-clause-opens
returns-in-Err-NoMemory-clause-opens g c =
    let call = c.args.call.now in
    let all = opened c.in_ok-index.index.now call in
    let old = (log_state ((g.dyn-1.0.entry c.args.log.now.vtable).1.told c.args.log.now.value) c.args.openings.now) in
    let new = (log_state ((g.dyn-1.0.entry c.search.new.log.vtable).1.told c.search.new.log.value) c.search.new.openings) in
    opens-named c.args.uid.now c.args.indexes.now c.in_ok-index.index.now (λ i. opened i call) true old new c.in_ok-index.ensures
    (opens-some (is_starved c.search.result) all old new c.search.ensures.opens)

pub returns-clause-opens : goal.returns-clause-opens
returns-clause-opens g c =
    let call = c.args.call.now in
    let all = there_opened (index_at c.args.uid.now c.args.indexes.now) (λ i. opened i call) in
    let old = (log_state ((g.dyn-1.0.entry c.args.log.now.vtable).1.told c.args.log.now.value) c.args.openings.now) in
    let new = (log_state ((g.dyn-1.0.entry c.search.new.log.vtable).1.told c.search.new.log.value) c.search.new.openings) in
    opens-either false all old new
    (opens-named c.args.uid.now c.args.indexes.now c.in_ok-index.index.now (λ i. opened i call) false old new c.in_ok-index.ensures c.in-Ok.ensures.opens)

pub returns-in-Err-NoMemory-clause-few : goal.returns-in-Err-NoMemory-clause-few
returns-in-Err-NoMemory-clause-few g c =
    let call = c.args.call.now in
    named_most c.args.uid.now c.args.indexes.now c.in_ok-index.index.now (λ i. most_opened i call) c.args.openings.now c.search.new.openings c.in_ok-index.ensures c.search.ensures.few

pub returns-clause-few : goal.returns-clause-few
returns-clause-few g c =
    let call = c.args.call.now in
    named_most c.args.uid.now c.args.indexes.now c.in_ok-index.index.now (λ i. most_opened i call) c.args.openings.now c.search.new.openings c.in_ok-index.ensures c.search.ensures.few
