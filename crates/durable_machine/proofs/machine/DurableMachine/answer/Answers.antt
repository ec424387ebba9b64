use Rattle.std.proofs.Common.{refl, sym, subst, true, false}
use Rattle.http_wire.specs.Reply.{memory_answer}
use Rattle.http_wire.specs.Sent.{IsSentAs}
use Rattle.http_wire.specs.Wire.{request_of}
use Rattle.document_changes.specs.Changes.{change_view}
use Rattle.request_calls.specs.Calls.{IsCall, call_of}
use Rattle.search_routes.specs.Chosen.{answer_of}
use Rattle.durable_machine.proofs.Answering.{opens_nothing, refused_opens, refused_replied, write_opens}
use Rattle.durable_machine.proofs.Crash.{crash_done, crash_now}
use Rattle.durable_machine.proofs.machine.DurableMachine.answer.Goals as goal

pub returns-in-Err-clause-step : goal.returns-in-Err-clause-step
returns-in-Err-clause-step g c =
    let sent = subst (λ r. IsSentAs r memory_answer) (sym c.replied.ensures.reply) (record { status = refl; body = refl; each = λ closes. refl }) in
    (true, (refl, sent, c.replied.ensures.follows c.args.self.now.machine (request_of c.args.wire) true (record { status = refl; body = refl; each = λ closes. refl })), opens_nothing _ _)

pub returns-in-Err-clause-crash_now : goal.returns-in-Err-clause-crash_now
returns-in-Err-clause-crash_now g c = crash_now c.args.self.now (g.K.Disk.contents c.args.disk_a.now) (g.K.Disk.contents c.args.disk_b.now) c.requires.durable

pub returns-in-Refused-clause-step : goal.returns-in-Refused-clause-step
returns-in-Refused-clause-step g c =
    let s = c.args.self.now.machine in
    let q = request_of c.args.wire in
    let call = subst (λ k. IsCall k (call_of q)) c.in-Refused.is c.in-Ok.ensures.call in
    let done = refused_replied s q call.0 c.in-Refused.reply call.1 call.2 in
    (false, (done.state, subst (λ r. IsSentAs r (answer_of s q false)) (sym c.replied-in-Refused.ensures.reply) done.sent, c.replied-in-Refused.ensures.follows s q false done.sent), refused_opens s q call.0 false _ call.1)

pub returns-in-Refused-clause-crash_now : goal.returns-in-Refused-clause-crash_now
returns-in-Refused-clause-crash_now g c = crash_now c.args.self.now (g.K.Disk.contents c.args.disk_a.now) (g.K.Disk.contents c.args.disk_b.now) c.requires.durable

pub returns-in-Read-clause-crash_now : goal.returns-in-Read-clause-crash_now
returns-in-Read-clause-crash_now g c = crash_now c.args.self.now (g.K.Disk.contents c.args.disk_a.now) (g.K.Disk.contents c.args.disk_b.now) c.requires.durable

pub returns-in-Write-clause-step : goal.returns-in-Write-clause-step
returns-in-Write-clause-step g c =
    let s = c.args.self.now.machine in
    let q = request_of c.args.wire in
    let call = subst (λ k. IsCall k (call_of q)) c.in-Write.is c.in-Ok.ensures.call in
    let done = c.write.ensures.step q call in
    (done.0, done.1, write_opens s q (change_view c.in-Write.change) done.0 _ call)

pub returns-in-Write-clause-crash_now : goal.returns-in-Write-clause-crash_now
returns-in-Write-clause-crash_now g c = crash_done c.write.result c.write.new.self (g.K.Disk.contents c.write.new.disk_a) (g.K.Disk.contents c.write.new.disk_b) c.write.ensures.durable

pub returns-in-Read-clause-step : goal.returns-in-Read-clause-step
returns-in-Read-clause-step g c =
    let s = c.args.self.now.machine in
    let q = request_of c.args.wire in
    let call = subst (λ k. IsCall k (call_of q)) c.in-Read.is c.in-Ok.ensures.call in
    let done = c.read-reply.ensures.answered q call in
    (done.0, (done.2, subst (λ r. IsSentAs r (answer_of s q done.0)) (sym c.replied-in-Read.ensures.reply) done.1, c.replied-in-Read.ensures.follows s q done.0 done.1), done.3)

pub returns-in-Write-clause-crash : goal.returns-in-Write-clause-crash
returns-in-Write-clause-crash g c =
    let q = request_of c.args.wire in
    c.write.ensures.crash q (subst (λ k. IsCall k (call_of q)) c.in-Write.is c.in-Ok.ensures.call)
