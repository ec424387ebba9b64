use Rattle.std.proofs.Common.{◌+◌, ◌≤◌, subst, arith}
use Rattle.bucket_sort.specs.Opens.{log_state}
use Rattle.request_calls.specs.declared.call.Call.TheVariants as call
use Rattle.request_calls.specs.Asked.{read, read_view}
use Rattle.search_routes.specs.State.{State}
use Rattle.search_routes.specs.Machine.{performed}
use Rattle.search_routes.specs.Needs.{read_need}
use Rattle.search_routes.specs.Openings.{read_most, read_opened}
use Rattle.search_routes.specs.Done.{Makes, noted}
use Rattle.search_routes.proofs.Steps.{most_made, need_made, read_made, step_made}
use Rattle.search_routes.proofs.machine.Machine.read.Goals as goal

pub returns-clause-made : goal.returns-clause-made
returns-clause-made g c =
    let before = log_state ((g.dyn-1.0.entry c.args.log.now.vtable).1.told c.args.log.now.value) c.args.openings.now in
    let behind = log_state ((g.dyn-1.0.entry c.read_queued-done.new.log.vtable).1.told c.read_queued-done.new.log.value) c.read_queued-done.new.openings in
    let asked = read_view c.args.call in
    subst (λ (s : State). Makes (performed s (read asked)) (read_opened s.indexes asked) (noted s before) c.reply_to.result (noted s behind)) c.self.view_is
    (read_made c.self.inside.queued asked (read_opened c.self.inside.queued.indexes asked) before behind c.read_queued-done.result c.reply_to.result
    c.read_queued-done.ensures.answer c.reply_to.ensures c.read_queued-done.ensures.opens)

pub returns-clause-answered : goal.returns-clause-answered
returns-clause-answered g c = λ q is. step_made _ q (call.Read c.args.call) _ _ is (returns-clause-made g c)

pub returns-clause-needed : goal.returns-clause-needed
returns-clause-needed g c = λ q is.
    let fetched : c.read_queued-done.new.fetches ≤ c.args.fetches.now + read_need c.args.self.now.indexes (read_view c.args.call) =
    subst (λ (s : State). c.read_queued-done.new.fetches ≤ c.args.fetches.now + read_need s.indexes (read_view c.args.call)) c.self.view_is c.read_queued-done.ensures.fetched in
    let need = need_made c.args.self.now q (call.Read c.args.call) is in
    omega (arith, need, fetched)

pub returns-clause-few_for : goal.returns-clause-few_for
returns-clause-few_for g c = λ q is.
    let few : c.read_queued-done.new.openings ≤ c.args.openings.now + read_most c.args.self.now.indexes (read_view c.args.call) =
    subst (λ (s : State). c.read_queued-done.new.openings ≤ c.args.openings.now + read_most s.indexes (read_view c.args.call)) c.self.view_is c.read_queued-done.ensures.few in
    let most = most_made c.args.self.now q (call.Read c.args.call) is in
    omega (arith, most, few)
