use Rattle.search_routes.proofs.FitLemmas.{after_making_room}
use Rattle.search_routes.proofs.machine.Machine.make_room.Goals as goal

pub invariant_of-self : goal.invariant_of-self
invariant_of-self g c = after_making_room c.make_room.result c.self.inside.queued c.make_room.new.self c.make_room.ensures.room c.make_room.ensures.stays c.self.invariant
