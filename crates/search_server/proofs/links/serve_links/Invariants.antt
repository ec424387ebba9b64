use Rattle.std.proofs.Common.{◌≡◌, ◌≤◌, true, false}
use Rattle.change_journal.specs.Shut.{is_told}
use Rattle.durable_machine.specs.Durable.{IsDurable}
use Rattle.bucket_sort.specs.Opens.{log_state}
use Rattle.search_server.specs.LinkState.{link_state, shared_state}
use Rattle.search_server.specs.Links.{door_state}
use Rattle.search_server.proofs.Visits.{Underway}
use Rattle.search_server.proofs.links.serve_links.Given as goal

abbrev pub invariant-loop-served : goal.invariant-loop-served
invariant-loop-served g l = record {
  visits : Underway (link_state g.D.Link.Link.left g.D.Link.Link.told g.D.Link.Link.read_faults g.D.Link.Link.write_faults)
      l.served
      (door_state g.D.Door.coming g.D.Door.returned g.D.Door.door_faults g.P.Link.told g.P.Link.write_faults l.fn.door l.fn.pipe
      (shared_state g.K.Disk.contents g.K.Disk.disk_faults l.fn.machine.machine l.fn.fetches (log_state ((g.dyn-1.0.entry l.fn.log.vtable).1.told l.fn.log.value) l.fn.openings) l.fn.disk_a l.fn.disk_b))
      (door_state g.D.Door.coming g.D.Door.returned g.D.Door.door_faults g.P.Link.told g.P.Link.write_faults l.door l.pipe
      (shared_state g.K.Disk.contents g.K.Disk.disk_faults l.machine.machine l.fetches (log_state ((g.dyn-1.0.entry l.log.vtable).1.told l.log.value) l.openings) l.disk_a l.disk_b));
  durable : IsDurable l.machine (g.K.Disk.contents l.disk_a) (g.K.Disk.contents l.disk_b);
  opened : g.D.Door.is_open l.door ≡ true;
  none_out : g.D.Door.is_out l.door ≡ false;
  left : g.P.Link.left l.pipe ≡ g.P.Link.left l.fn.pipe;
  read_faults : g.P.Link.read_faults l.pipe ≡ g.P.Link.read_faults l.fn.pipe;
  write_later : g.P.Link.write_faults l.fn.pipe ≤ g.P.Link.write_faults l.pipe;
  door_later : g.D.Door.door_faults l.fn.door ≤ g.D.Door.door_faults l.door;
  told_a : is_told (g.K.Disk.contents l.disk_a) ≡ is_told (g.K.Disk.contents l.fn.disk_a);
  told_b : is_told (g.K.Disk.contents l.disk_b) ≡ is_told (g.K.Disk.contents l.fn.disk_b);
  later_a : g.K.Disk.disk_faults l.fn.disk_a ≤ g.K.Disk.disk_faults l.disk_a;
  later_b : g.K.Disk.disk_faults l.fn.disk_b ≤ g.K.Disk.disk_faults l.disk_b;
}
