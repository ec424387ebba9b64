use Rattle.std.proofs.Common.{refl, arith}
use Rattle.bucket_sort.specs.Opens.{log_state}
use Rattle.document_changes.specs.Changes.{change_view}
use Rattle.request_calls.specs.Asked.{write}
use Rattle.search_routes.specs.Done.{noted}
use Rattle.search_routes.specs.Machine.{performed}
use Rattle.search_routes.proofs.Steps.{most_made, need_made, step_made, write_made}
use Rattle.search_routes.proofs.performing.perform.Goals as goal

pub returns-in-Refused-clause-answered : goal.returns-in-Refused-clause-answered
returns-in-Refused-clause-answered g c = λ q is. step_made (noted c.args.machine.now (log_state ((g.dyn-1.0.entry c.args.log.now.vtable).1.told c.args.log.now.value) c.args.openings.now)) q c.args.call c.in-Refused.reply (noted c.args.machine.now (log_state ((g.dyn-1.0.entry c.args.log.now.vtable).1.told c.args.log.now.value) c.args.openings.now)) is (rw c.in-Refused.is (refl, refl))

pub returns-in-Write-clause-performed : goal.returns-in-Write-clause-performed
returns-in-Write-clause-performed g c =
    let log = log_state ((g.dyn-1.0.entry c.args.log.now.vtable).1.told c.args.log.now.value) c.args.openings.now in
    rw c.in-Write.is
    (write_made (performed c.args.machine.now (write (change_view c.in-Write.change))) log c.args.machine.now c.accept.new.machine c.accept.result c.accept.ensures.made)

pub returns-in-Write-clause-answered : goal.returns-in-Write-clause-answered
returns-in-Write-clause-answered g c = λ q is. step_made _ q c.args.call _ _ is (returns-in-Write-clause-performed g c)

pub returns-in-Write-clause-needed : goal.returns-in-Write-clause-needed
returns-in-Write-clause-needed g c = λ q is.
    let need = rw c.in-Write.is at (need_made c.args.machine.now q c.args.call is) in
    omega (arith, need, c.accept.ensures.fetched)

pub returns-in-Read-clause-performed : goal.returns-in-Read-clause-performed
returns-in-Read-clause-performed g c = rw c.in-Read.is c.read.ensures.made

pub returns-in-Read-clause-answered : goal.returns-in-Read-clause-answered
returns-in-Read-clause-answered g c = λ q is. step_made _ q c.args.call _ _ is (returns-in-Read-clause-performed g c)

pub returns-in-Read-clause-needed : goal.returns-in-Read-clause-needed
returns-in-Read-clause-needed g c = λ q is.
    let need = rw c.in-Read.is at (need_made c.args.machine.now q c.args.call is) in
    omega (arith, need, c.read.ensures.fetched)

pub returns-in-Read-clause-few_for : goal.returns-in-Read-clause-few_for
returns-in-Read-clause-few_for g c = λ q is.
    let most = rw c.in-Read.is at (most_made c.args.machine.now q c.args.call is) in
    omega (arith, most, c.read.ensures.few)
