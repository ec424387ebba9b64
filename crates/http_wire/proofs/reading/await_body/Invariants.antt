use Rattle.std.proofs.Common.{◌≡◌, ◌≤◌, ◌-◌, length}
use Rattle.std.specs.Io.{StartsWith}
use Rattle.std.specs.Io.KnownBytes.{prepend_known}
use Rattle.http_wire.proofs.reading.await_body.Given as goal

abbrev pub invariant-loop-kept : goal.invariant-loop-kept
invariant-loop-kept g l = record {
  same : prepend_known l.kept (g.P.Link.left l.link) ≡ prepend_known l.fn.kept (g.P.Link.left l.fn.link);
  front : StartsWith l.kept l.fn.kept;
  within : length l.fn.kept ≤ length l.kept;
  later : g.P.Link.read_faults l.fn.link ≤ g.P.Link.read_faults l.link;
  told : g.P.Link.told l.link ≡ g.P.Link.told l.fn.link;
  write_faults : g.P.Link.write_faults l.link ≡ g.P.Link.write_faults l.fn.link;
}

abbrev pub decreases-loop-kept : goal.decreases-loop-kept
decreases-loop-kept g l = l.size - (length l.kept - l.start)
