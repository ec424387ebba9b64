use Rattle.std.proofs.Common.{Ok, Result, refl, sym, ap, subst, ◌∙◌, arith}
use Rattle.change_journal.specs.Format.{Spot}
use Rattle.search_routes.specs.State.{State}
use Rattle.durable_machine.specs.Reopened.{IsDamage}
use Rattle.durable_machine.proofs.Reopening.{none_held, starts}
use Rattle.durable_machine.proofs.opening.make_again.Goals as goal

pub returns-in-Ok-clause-held : goal.returns-in-Ok-clause-held
returns-in-Ok-clause-held g c = λ xs ys stands.
    let made : State → Result State Spot = λ s. Ok s in none_held c.args.opened xs ys c.in-None.is stands ∙ sym (ap made c.in-Ok.ensures)

pub returns-in-Ok-machine_of-clause-held : goal.returns-in-Ok-machine_of-clause-held
returns-in-Ok-machine_of-clause-held g c = λ xs ys stands.
    let start = starts c.args.opened c.in-Some.rows c.args.opened.changes.items xs ys c.in-Some.is refl stands in
    start.run ∙ c.in-Ok-machine_of.ensures.run c.args.opened.journal.gate c.requires.room start.below

pub returns-in-Ok-machine_of-clause-fetched : goal.returns-in-Ok-machine_of-clause-fetched
returns-in-Ok-machine_of-clause-fetched g c = λ xs ys stands.
    let start = starts c.args.opened c.in-Some.rows c.args.opened.changes.items xs ys c.in-Some.is refl stands in
    omega (arith, start.need, c.machine_of.ensures.fetched c.args.opened.journal.gate)

pub returns-clause-held : goal.returns-clause-held
returns-clause-held g c = λ xs ys stands.
    let start = starts c.args.opened c.in-Some.rows c.args.opened.changes.items xs ys c.in-Some.is refl stands in
    subst (IsDamage c.in-Err-machine_of.fault) (sym start.run) (c.in-Err-machine_of.ensures.run c.args.opened.journal.gate c.requires.room start.below)

pub returns-clause-fetched : goal.returns-clause-fetched
returns-clause-fetched g c = λ xs ys stands.
    let start = starts c.args.opened c.in-Some.rows c.args.opened.changes.items xs ys c.in-Some.is refl stands in
    omega (arith, start.need, c.machine_of.ensures.fetched c.args.opened.journal.gate)
