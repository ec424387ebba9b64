use Rattle.std.proofs.Common.{refl, ◌∙◌, ap}
use Rattle.queued_changes.specs.Machine.{run_out}
use Rattle.queued_changes.proofs.Runs.{settled_out}
use Rattle.named_indexes.specs.Changes.{changed}
use Rattle.durable_machine.proofs.Crash.{run_durable}
use Rattle.durable_machine.proofs.machine.DurableMachine.settle.Goals as goal

pub returns-clause-out : goal.returns-clause-out
returns-clause-out g c = ap (run_out changed) c.in_ok-settle.ensures.settled ∙ settled_out changed c.args.self.now.machine

pub returns-clause-durable : goal.returns-clause-durable
returns-clause-durable g c = λ a b durable.
    run_durable c.args.self.now (record { machine = c.settle.new.self; journal = c.args.self.now.journal }) a b refl c.settle.ensures.counted
    (ap (run_out changed) c.in_ok-settle.ensures.settled ∙ settled_out changed c.args.self.now.machine) durable
