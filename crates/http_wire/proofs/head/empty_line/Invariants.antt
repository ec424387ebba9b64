use Rattle.http_wire.specs.Head.{HasNoEmptyLine}
use Rattle.http_wire.proofs.head.empty_line.Given as goal

abbrev pub invariant-loop-n : goal.invariant-loop-n
invariant-loop-n l = HasNoEmptyLine l.text l.n
