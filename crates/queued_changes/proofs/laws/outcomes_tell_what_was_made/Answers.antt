use Rattle.queued_changes.proofs.Runs.{told}
use Rattle.queued_changes.proofs.laws.outcomes_tell_what_was_made.Goals as goal

pub returns : goal.returns
returns g c = λ uid kind change i accepted. told (g.W.Worker.changed uid change i) (g.met.W.Worker.numbered uid kind change i accepted)
