use Rattle.std.proofs.Common.{◌≤◌, length}
use Rattle.outside_io.proofs.file_disk.read_fully.Given as goal

abbrev pub invariant-loop : goal.invariant-loop
invariant-loop l = l.done ≤ length l.into
