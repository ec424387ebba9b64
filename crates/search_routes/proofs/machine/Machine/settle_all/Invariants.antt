use Rattle.std.proofs.Common.{◌≡◌, ◌+◌, ◌≤◌, length}
use Rattle.queued_changes.specs.State.{accepted}
use Rattle.queued_changes.specs.Machine.{run_out}
use Rattle.queued_changes.specs.Needs.{out_need}
use Rattle.named_indexes.specs.Changes.{changed}
use Rattle.named_indexes.specs.Needs.{need}
use Rattle.search_routes.proofs.machine.Machine.settle_all.Given as goal

abbrev pub invariant-loop : goal.invariant-loop
invariant-loop g l = record {
  out : run_out changed l.self ≡ run_out changed l.fn.self;
  counted : accepted l.self ≡ accepted l.fn.self;
  fetched : l.fetches + out_need changed need l.self ≤ l.fn.fetches + out_need changed need l.fn.self;
}

abbrev pub decreases-loop : goal.decreases-loop
decreases-loop g l = length l.self.queue
