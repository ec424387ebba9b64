use Rattle.std.proofs.Common.{◌∙◌, ap, arith}
use Rattle.change_journal.specs.Format.{version_of}
use Rattle.durable_machine.proofs.Payloads.{as_many}
use Rattle.durable_machine.proofs.machine.DurableMachine.checkpoint_if_due.Goals as goal

pub checkpoint-requires-clause-held : goal.checkpoint-requires-clause-held
checkpoint-requires-clause-held g c =
    let first = c.in-Ok-first_of.ensures in
    let machine = c.args.self.now.machine in
    omega (arith, c.requires.count, first.number, as_many machine.finished c.in-Ok-first_of.first.payloads machine.queue first.tasks)

pub checkpoint-requires-clause-version : goal.checkpoint-requires-clause-version
checkpoint-requires-clause-version g c = ap version_of (c.deref.ensures.value ∙ c.in-Ok.ensures.version.1)
