use Rattle.queued_changes.proofs.Runs.{opening}
use Rattle.queued_changes.proofs.laws.opening_runs_each_task.Goals as goal

pub returns : goal.returns
returns g c = λ ts s idle. opening g.W.Worker.changed ts s idle
