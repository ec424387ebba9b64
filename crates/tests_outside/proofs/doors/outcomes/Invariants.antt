use Rattle.std.proofs.Common.{◌≡◌, true, false}
use Rattle.tests_outside.proofs.doors.outcomes.Given as goal

abbrev pub invariant-loop : goal.invariant-loop
invariant-loop g l = record {
  opened : l.open ≡ true → g.D.Door.is_open l.door ≡ true;
  none_out : g.D.Door.is_out l.door ≡ false;
}
