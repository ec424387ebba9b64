use Rattle.http_wire.specs.Head.{AreEnds}
use Rattle.http_wire.proofs.head.skip_ends.Given as goal

abbrev pub invariant-loop-k : goal.invariant-loop-k
invariant-loop-k l = AreEnds l.bytes l.k
