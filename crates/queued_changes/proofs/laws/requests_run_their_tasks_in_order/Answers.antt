use Rattle.queued_changes.proofs.Requests.{runs, ends, in_order, counts}
use Rattle.queued_changes.proofs.laws.requests_run_their_tasks_in_order.Goals as goal

pub returns : goal.returns
returns g c = record {
  runs = λ step is s events. runs g.W.Worker.changed step is s events;
  ends = λ step is mark s events t end. ends g.W.Worker.changed step is mark s events t end;
  first = λ step s front back. in_order g.W.Worker.changed step s front back;
  counted = λ step is s events. counts g.W.Worker.changed step is s events;
}
