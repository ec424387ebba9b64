use Rattle.queued_changes.proofs.Runs.{settled_out, room_out, accepted_out, accepted_counts, waits_accepted}
use Rattle.queued_changes.proofs.laws.running_in_batches_is_running_in_order.Goals as goal

pub returns : goal.returns
returns g c = record {
  settling = λ s. settled_out g.W.Worker.changed s;
  room = λ s. room_out g.W.Worker.changed s;
  last = λ uid kind change s. accepted_out g.W.Worker.changed uid kind change s;
  counted = λ uid kind change s. accepted_counts g.W.Worker.changed uid kind change s;
  waiting = λ uid kind change s. waits_accepted g.W.Worker.changed uid kind change s;
}
