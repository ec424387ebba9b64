use Rattle.std.proofs.Common.{◌∙◌, refl, true, false, sym, ap, subst, arith}
use Rattle.document_changes.specs.Changes.{change_view}
use Rattle.http_wire.specs.Reply.{memory_answer}
use Rattle.http_wire.specs.Sent.{IsSentAs}
use Rattle.queued_changes.specs.Machine.{run_out}
use Rattle.named_indexes.specs.Changes.{changed}
use Rattle.search_routes.specs.Chosen.{answer_of}
use Rattle.search_routes.specs.Redo.{redone}
use Rattle.durable_machine.specs.Durable.{IsDurable}
use Rattle.durable_machine.proofs.Answering.{leaves_replied, room_run, taken_answer, taken_need, taken_waits}
use Rattle.durable_machine.proofs.Crash.{crash_either, run_durable}
use Rattle.durable_machine.proofs.machine.DurableMachine.write.Goals as goal

pub returns-in-Err-clause-step : goal.returns-in-Err-clause-step
returns-in-Err-clause-step g c = λ q is.
    let s = c.args.self.now.machine in
    let done = leaves_replied s q (change_view c.args.change) c.in-Err.reply s is c.in-Err.ensures.unmade in
    let sent = done.1.sent in
    (done.0, (done.1.state, subst (λ r. IsSentAs r (answer_of s q done.0)) (sym c.replied.ensures.reply) sent, c.replied.ensures.follows s q done.0 sent))

pub accept-requires-clause-durable : goal.accept-requires-clause-durable
accept-requires-clause-durable g c =
    run_durable c.args.self.now (record { machine = c.make_room.new.self; journal = c.args.self.now.journal }) (g.K.Disk.contents c.args.disk_a.now) (g.K.Disk.contents c.args.disk_b.now)
    refl c.make_room.ensures.counted (room_run c.args.self.now.machine c.make_room.new.self c.in-Ok-make_room.ensures.room) c.requires.durable

pub returns-in-Ok-make_room-clause-step : goal.returns-in-Ok-make_room-clause-step
returns-in-Ok-make_room-clause-step g c = λ q is. (
  false,
  taken_answer c.args.self.now.machine q (change_view c.args.change) c.in-Ok.ready.prepared is c.in-Ok.ensures.prepared c.make_room.new.self c.in-Ok-make_room.ensures.room
      c.accept.result c.accept.new.self.machine c.accept.ensures.machine c.accept.ensures.reply c.accept.ensures.follows,
)

pub returns-in-Ok-make_room-clause-crash : goal.returns-in-Ok-make_room-clause-crash
returns-in-Ok-make_room-clause-crash g c = λ q is.
    let s = c.args.self.now.machine in
    let room = c.in-Ok-make_room.ensures.room in
    let waits = taken_waits s q (change_view c.args.change) c.in-Ok.ready.prepared is c.in-Ok.ensures.prepared c.make_room.new.self room in
    crash_either c.accept.result (g.K.Disk.contents c.accept.new.disk_a) (g.K.Disk.contents c.accept.new.disk_b) _ _ _ _ (room_run s c.make_room.new.self room) (ap (run_out changed) (sym waits)) c.accept.ensures.crash

pub returns-in-Ok-make_room-clause-only_due : goal.returns-in-Ok-make_room-clause-only_due
returns-in-Ok-make_room-clause-only_due g c = λ changes.
    let due = c.accept.ensures.only_due changes in
    let bytes = c.in-Ok.ready.entry.payload in
    (bytes, ap (λ u. redone u bytes) (sym (room_run c.args.self.now.machine c.make_room.new.self c.in-Ok-make_room.ensures.room)) ∙ due.0, due.1)

pub returns-in-Ok-make_room-clause-fetched : goal.returns-in-Ok-make_room-clause-fetched
returns-in-Ok-make_room-clause-fetched g c = λ q is.
    let needs = taken_need c.args.self.now.machine q (change_view c.args.change) c.in-Ok.ready.prepared is c.in-Ok.ensures.prepared in
    omega (arith, c.make_room.ensures.fetched, needs)

pub returns-in-Err-make_room-clause-step : goal.returns-in-Err-make_room-clause-step
returns-in-Err-make_room-clause-step g c = λ q is.
    let s = c.args.self.now.machine in
    let sent = subst (λ r. IsSentAs r memory_answer) (sym c.replied-in-Err-make_room.ensures.reply) (record { status = refl; body = refl; each = λ closes. refl }) in
    (true, (c.in-Err-make_room.ensures.stays, sent, c.replied-in-Err-make_room.ensures.follows s q true (record { status = refl; body = refl; each = λ closes. refl })))

pub returns-in-Err-make_room-clause-fetched : goal.returns-in-Err-make_room-clause-fetched
returns-in-Err-make_room-clause-fetched g c = λ q is.
    let needs = taken_need c.args.self.now.machine q (change_view c.args.change) c.in-Ok.ready.prepared is c.in-Ok.ensures.prepared in
    omega (arith, c.make_room.ensures.fetched, needs)

pub returns-in-Err-make_room-clause-durable : goal.returns-in-Err-make_room-clause-durable
returns-in-Err-make_room-clause-durable g c =
    subst (λ m. IsDurable (record { machine = m; journal = c.args.self.now.journal }) (g.K.Disk.contents c.args.disk_a.now) (g.K.Disk.contents c.args.disk_b.now))
    (sym c.in-Err-make_room.ensures.stays) c.requires.durable
