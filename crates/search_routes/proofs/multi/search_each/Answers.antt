use Rattle.bucket_sort.specs.Opens.{log_state}
use Rattle.search_routes.proofs.MultiLemmas.{made-all, made-until, all-answered, refused-first}
use Rattle.search_routes.proofs.multi.search_each.Goals as goal

pub returns-in-Ok-clause-same_log : goal.returns-in-Ok-clause-same_log
returns-in-Ok-clause-same_log g c =
    (made-all c.args.searches.now c.run.new.searches _ c.args.calls.now c.in-Ok.results.items c.in-Ok.ensures.ran
    (λ s. s.indexes.now) (λ s. s.log.ghost_name) (λ s. s.fetches.ghost_name) (λ s. s.openings.ghost_name)
    (λ s. record { log = log_state ((g.dyn-1.0.entry s.log.now.vtable).1.told s.log.now.value) s.openings.now; fetched = s.fetches.now })
    (λ b call outcome a left. ((left.0, left.1, left.2, left.3), left.4))).0.1

pub returns-in-Err-clause-same_log : goal.returns-in-Err-clause-same_log
returns-in-Err-clause-same_log g c =
    (made-until c.args.searches.now c.run.new.searches _ c.args.calls.now c.in-Err.fault c.fault_of.result c.fault_of.ensures c.in-Err.ensures.stopped
    (λ s. s.indexes.now) (λ s. s.log.ghost_name) (λ s. s.fetches.ghost_name) (λ s. s.openings.ghost_name)
    (λ s. record { log = log_state ((g.dyn-1.0.entry s.log.now.vtable).1.told s.log.now.value) s.openings.now; fetched = s.fetches.now })
    (λ b call outcome a left. ((left.0, left.1, left.2, left.3), left.4))).0.1

pub returns-in-Ok-clause-same_fetches : goal.returns-in-Ok-clause-same_fetches
returns-in-Ok-clause-same_fetches g c =
    (made-all c.args.searches.now c.run.new.searches _ c.args.calls.now c.in-Ok.results.items c.in-Ok.ensures.ran
    (λ s. s.indexes.now) (λ s. s.log.ghost_name) (λ s. s.fetches.ghost_name) (λ s. s.openings.ghost_name)
    (λ s. record { log = log_state ((g.dyn-1.0.entry s.log.now.vtable).1.told s.log.now.value) s.openings.now; fetched = s.fetches.now })
    (λ b call outcome a left. ((left.0, left.1, left.2, left.3), left.4))).0.2

pub returns-in-Err-clause-same_fetches : goal.returns-in-Err-clause-same_fetches
returns-in-Err-clause-same_fetches g c =
    (made-until c.args.searches.now c.run.new.searches _ c.args.calls.now c.in-Err.fault c.fault_of.result c.fault_of.ensures c.in-Err.ensures.stopped
    (λ s. s.indexes.now) (λ s. s.log.ghost_name) (λ s. s.fetches.ghost_name) (λ s. s.openings.ghost_name)
    (λ s. record { log = log_state ((g.dyn-1.0.entry s.log.now.vtable).1.told s.log.now.value) s.openings.now; fetched = s.fetches.now })
    (λ b call outcome a left. ((left.0, left.1, left.2, left.3), left.4))).0.2

pub returns-in-Ok-clause-same_openings : goal.returns-in-Ok-clause-same_openings
returns-in-Ok-clause-same_openings g c =
    (made-all c.args.searches.now c.run.new.searches _ c.args.calls.now c.in-Ok.results.items c.in-Ok.ensures.ran
    (λ s. s.indexes.now) (λ s. s.log.ghost_name) (λ s. s.fetches.ghost_name) (λ s. s.openings.ghost_name)
    (λ s. record { log = log_state ((g.dyn-1.0.entry s.log.now.vtable).1.told s.log.now.value) s.openings.now; fetched = s.fetches.now })
    (λ b call outcome a left. ((left.0, left.1, left.2, left.3), left.4))).0.3

pub returns-in-Err-clause-same_openings : goal.returns-in-Err-clause-same_openings
returns-in-Err-clause-same_openings g c =
    (made-until c.args.searches.now c.run.new.searches _ c.args.calls.now c.in-Err.fault c.fault_of.result c.fault_of.ensures c.in-Err.ensures.stopped
    (λ s. s.indexes.now) (λ s. s.log.ghost_name) (λ s. s.fetches.ghost_name) (λ s. s.openings.ghost_name)
    (λ s. record { log = log_state ((g.dyn-1.0.entry s.log.now.vtable).1.told s.log.now.value) s.openings.now; fetched = s.fetches.now })
    (λ b call outcome a left. ((left.0, left.1, left.2, left.3), left.4))).0.3

pub returns-in-Ok-clause-answer : goal.returns-in-Ok-clause-answer
returns-in-Ok-clause-answer g c = all-answered c.args.searches.now.indexes.now c.args.calls.now c.in-Ok.results.items c.in-Ok.ensures.answers

pub returns-in-Err-clause-answer : goal.returns-in-Err-clause-answer
returns-in-Err-clause-answer g c =
    refused-first c.args.searches.now.indexes.now c.args.calls.now c.in-Err.fault c.fault_of.result c.fault_of.ensures c.in-Err.ensures.refusal

pub returns-in-Ok-clause-made : goal.returns-in-Ok-clause-made
returns-in-Ok-clause-made g c =
    (made-all c.args.searches.now c.run.new.searches _ c.args.calls.now c.in-Ok.results.items c.in-Ok.ensures.ran
    (λ s. s.indexes.now) (λ s. s.log.ghost_name) (λ s. s.fetches.ghost_name) (λ s. s.openings.ghost_name)
    (λ s. record { log = log_state ((g.dyn-1.0.entry s.log.now.vtable).1.told s.log.now.value) s.openings.now; fetched = s.fetches.now })
    (λ b call outcome a left. ((left.0, left.1, left.2, left.3), left.4))).1

pub returns-in-Err-clause-made : goal.returns-in-Err-clause-made
returns-in-Err-clause-made g c =
    (made-until c.args.searches.now c.run.new.searches _ c.args.calls.now c.in-Err.fault c.fault_of.result c.fault_of.ensures c.in-Err.ensures.stopped
    (λ s. s.indexes.now) (λ s. s.log.ghost_name) (λ s. s.fetches.ghost_name) (λ s. s.openings.ghost_name)
    (λ s. record { log = log_state ((g.dyn-1.0.entry s.log.now.vtable).1.told s.log.now.value) s.openings.now; fetched = s.fetches.now })
    (λ b call outcome a left. ((left.0, left.1, left.2, left.3), left.4))).1
