use Rattle.std.proofs.Common.{◌∙◌, Ok, sym, ap, arith}
use Rattle.queued_changes.specs.Machine.{behind, run_out}
use Rattle.named_indexes.specs.Changes.{changed}
use Rattle.durable_machine.proofs.Answering.{on_err}
use Rattle.durable_machine.proofs.Settled.{prepared_again, waits_redone}
use Rattle.durable_machine.proofs.machine.DurableMachine.accept.Goals as goal

pub returns-in_err-append-clause-crash : goal.returns-in_err-append-clause-crash
returns-in_err-append-clause-crash g c =
    let s = c.args.self.now.machine in
    let t = c.args.ready.prepared.task in
    let bytes = c.args.ready.entry.payload in
    let again = prepared_again _ c.requires.prepared.0 c.args.ready.prepared bytes c.requires.prepared.1 c.requires.records in
    on_err c.from_residual.result _ (c.in_err-append.ensures.crash s (behind t s) c.requires.durable (waits_redone s t bytes again))

pub checkpoint_if_due-requires : goal.checkpoint_if_due-requires
checkpoint_if_due-requires g c =
    let s = c.args.self.now.machine in
    let t = c.args.ready.prepared.task in
    let bytes = c.args.ready.entry.payload in
    let again = prepared_again _ c.requires.prepared.0 c.args.ready.prepared bytes c.requires.prepared.1 c.requires.records in
    c.in_ok-append.ensures.durable s c.enqueue-reply.new.self c.requires.durable (waits_redone s t bytes again ∙ ap (λ u. Ok (run_out changed u)) (sym c.enqueue-reply.ensures.task))

pub returns-in_err-passed-clause-only_due : goal.returns-in_err-passed-clause-only_due
returns-in_err-passed-clause-only_due g c = λ changes.
    let s = c.args.self.now.machine in
    let t = c.args.ready.prepared.task in
    let bytes = c.args.ready.entry.payload in
    let again = prepared_again _ c.requires.prepared.0 c.args.ready.prepared bytes c.requires.prepared.1 c.requires.records in
    let due = c.checkpoint_if_due.ensures.only_due (λ e. changes (e ∙ c.append.ensures.generation)) in
    (waits_redone s t bytes again ∙ ap (λ u. Ok (run_out changed u)) (sym (c.checkpoint_if_due.ensures.machine ∙ c.enqueue-reply.ensures.task)), omega (arith, due.0, c.in_ok-append.ensures.grown))

pub returns-clause-only_due : goal.returns-clause-only_due
returns-clause-only_due g c = λ changes.
    let s = c.args.self.now.machine in
    let t = c.args.ready.prepared.task in
    let bytes = c.args.ready.entry.payload in
    let again = prepared_again _ c.requires.prepared.0 c.args.ready.prepared bytes c.requires.prepared.1 c.requires.records in
    let due = c.checkpoint_if_due.ensures.only_due (λ e. changes (e ∙ c.append.ensures.generation)) in
    (waits_redone s t bytes again ∙ ap (λ u. Ok (run_out changed u)) (sym (c.checkpoint_if_due.ensures.machine ∙ c.enqueue-reply.ensures.task)), omega (arith, due.0, c.in_ok-append.ensures.grown))
