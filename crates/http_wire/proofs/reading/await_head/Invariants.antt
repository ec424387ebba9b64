use Rattle.std.proofs.Common.{◌≡◌, ◌≤◌, ◌-◌, length}
use Rattle.std.specs.Io.KnownBytes.{prepend_known}
use Rattle.http_wire.proofs.reading.await_head.Given as goal

abbrev pub invariant-loop-start : goal.invariant-loop-start
invariant-loop-start g l = record {
  same : prepend_known l.kept (g.P.Link.left l.link) ≡ prepend_known l.fn.kept (g.P.Link.left l.fn.link);
  later : g.P.Link.read_faults l.fn.link ≤ g.P.Link.read_faults l.link;
  told : g.P.Link.told l.link ≡ g.P.Link.told l.fn.link;
  write_faults : g.P.Link.write_faults l.link ≡ g.P.Link.write_faults l.fn.link;
}

abbrev pub decreases-loop-start : goal.decreases-loop-start
decreases-loop-start g l = 32768 - length l.kept
