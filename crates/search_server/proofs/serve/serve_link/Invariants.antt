use Rattle.std.proofs.Common.{◌≡◌, ◌+◌, ◌≤◌, ℕ, List, Some, false}
use Rattle.std.specs.Io.KnownBytes.{prepend_known}
use Rattle.change_journal.specs.Shut.{is_told}
use Rattle.queued_changes.specs.State.{accepted}
use Rattle.durable_machine.specs.Durable.{IsDurable}
use Rattle.bucket_sort.specs.Opens.{log_state}
use Rattle.search_server.specs.LinkState.{link_state, shared_state}
use Rattle.search_server.specs.Passed.{PassedIfDue}
use Rattle.search_server.specs.Telling.{GoesOnTelling}
use Rattle.search_server.proofs.Progress.{Progress}
use Rattle.search_server.proofs.serve.serve_link.Given as goal

abbrev pub invariant-loop-served : goal.invariant-loop-served
invariant-loop-served g l = record {
  progress : (bytes : List ℕ) → g.P.Link.left l.fn.link ≡ Some bytes
      → Progress bytes
      (link_state g.P.Link.left g.P.Link.told g.P.Link.read_faults g.P.Link.write_faults l.fn.link
      (shared_state g.K.Disk.contents g.K.Disk.disk_faults l.fn.machine.machine l.fn.fetches (log_state ((g.dyn-1.0.entry l.fn.log.vtable).1.told l.fn.log.value) l.fn.openings) l.fn.disk_a l.fn.disk_b))
      (link_state (λ link. prepend_known l.kept (g.P.Link.left link)) g.P.Link.told g.P.Link.read_faults g.P.Link.write_faults l.link
      (shared_state g.K.Disk.contents g.K.Disk.disk_faults l.machine.machine l.fetches (log_state ((g.dyn-1.0.entry l.log.vtable).1.told l.log.value) l.openings) l.disk_a l.disk_b))
      l.served false;
  durable : IsDurable l.machine (g.K.Disk.contents l.disk_a) (g.K.Disk.contents l.disk_b);
  due : PassedIfDue l.fn.machine l.machine l.passed;
  passed_few : l.passed + accepted l.fn.machine.machine ≤ accepted l.machine.machine;
  read_later : g.P.Link.read_faults l.fn.link ≤ g.P.Link.read_faults l.link;
  write_later : g.P.Link.write_faults l.fn.link ≤ g.P.Link.write_faults l.link;
  left_telling : GoesOnTelling (g.P.Link.left l.fn.link) (g.P.Link.left l.link);
  told_telling : GoesOnTelling (g.P.Link.told l.fn.link) (g.P.Link.told l.link);
  told_a : is_told (g.K.Disk.contents l.disk_a) ≡ is_told (g.K.Disk.contents l.fn.disk_a);
  told_b : is_told (g.K.Disk.contents l.disk_b) ≡ is_told (g.K.Disk.contents l.fn.disk_b);
  later_a : g.K.Disk.disk_faults l.fn.disk_a ≤ g.K.Disk.disk_faults l.disk_a;
  later_b : g.K.Disk.disk_faults l.fn.disk_b ≤ g.K.Disk.disk_faults l.disk_b;
}
