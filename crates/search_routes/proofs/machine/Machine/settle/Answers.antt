use Rattle.search_routes.proofs.FitLemmas.{after_settling}
use Rattle.search_routes.proofs.machine.Machine.settle.Goals as goal

pub invariant_of-self : goal.invariant_of-self
invariant_of-self g c = after_settling c.settle.result c.self.inside.queued c.settle.new.self c.settle.ensures.settled c.settle.ensures.stays c.self.invariant
