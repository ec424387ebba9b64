use Rattle.std.proofs.Common.{◌≡◌, ◌∙◌, ℕ, Ok, Err, sym, ap, subst}
use Rattle.queued_changes.specs.Machine.{behind, run_out}
use Rattle.queued_changes.specs.State.{accepted}
use Rattle.named_indexes.specs.Changes.{changed}
use Rattle.search_routes.specs.Redo.{ReadsTask, task_again}
use Rattle.durable_machine.specs.Held.{if_redone}
use Rattle.durable_machine.proofs.Settled.{out_counts, room_redone}
use Rattle.durable_machine.proofs.opening.wait_again.Goals as goal

pub returns-in-Err-clause-run : goal.returns-in-Err-clause-run
returns-in-Err-clause-run g c = λ fits.
    let bytes = c.args.change.payload.items in
    let count = c.accepted.ensures.count ∙ sym (out_counts c.args.machine.now) in
    c.fault_at.ensures.damage (run_out changed c.args.machine.now) bytes fits
    (subst (λ (n : ℕ). ReadsTask (Err c.in-Err.fault) (task_again n bytes)) count c.in-Err.ensures.exact)

pub returns-in-Ok-make_room-clause-run : goal.returns-in-Ok-make_room-clause-run
returns-in-Ok-make_room-clause-run g c = λ fits.
    let bytes = c.args.change.payload.items in
    let again : task_again (accepted c.args.machine.now) bytes ≡ Ok c.in-Ok.task = ap (λ (n : ℕ). task_again n bytes) (sym c.accepted.ensures.count) ∙ c.in-Ok.ensures.exact in
    let waits = c.push.ensures ∙ ap (behind c.in-Ok.task) c.in-Ok-make_room.ensures.room in
    let made = room_redone c.args.machine.now c.in-Ok.task bytes again ∙ ap (λ s. Ok (run_out changed s)) (sym waits) in
    ap (λ r. if_redone c.args.disk c.args.change.place r Ok) made
