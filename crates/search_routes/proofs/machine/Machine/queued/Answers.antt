use Rattle.std.proofs.Common.{subst}
use Rattle.std.specs.List.{AllByRecursion}
use Rattle.search_routes.specs.State.{State}
use Rattle.search_routes.specs.Redo.{IsReadAgain}
use Rattle.search_routes.proofs.TaskLemmas.{tasks_read}
use Rattle.search_routes.proofs.machine.Machine.queued.Goals as goal

pub returns-clause-again : goal.returns-clause-again
returns-clause-again c =
    let s = c.self.inside.queued in
    let P : State → Type 0 = λ s. AllByRecursion IsReadAgain s.queue in
    subst P c.self.view_is (tasks_read s.finished s.queue c.waiting.ensures.numbered c.waiting.ensures.accepted c.self.invariant.fit)
