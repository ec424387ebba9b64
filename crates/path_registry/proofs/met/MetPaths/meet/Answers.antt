use Rattle.path_registry.specs.declared.met.MetPaths.{MetPaths}
use Rattle.path_registry.proofs.MetLemmas.{met-more}
use Rattle.path_registry.proofs.met.MetPaths.meet.Goals as goal

pub returns : goal.returns
returns c = λ documents given.
    let new : MetPaths = record { met = c.note_walk.new.fresh; spent = c.in_ok-self.field-0 } in
    met-more documents c.args.document.now c.in_ok-walk.walk.items c.new-none.result.paths c.args.self.now new given c.new-none.ensures c.in_ok-walk.ensures c.if-self.false
    c.in_ok-self.ensures.noted c.in_ok-self.ensures.within
