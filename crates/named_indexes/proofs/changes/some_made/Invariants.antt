use Rattle.std.proofs.Common.{◌≡◌, take, false}
use Rattle.std.specs.Option.{is_none}
use Rattle.std.specs.List.{list_any}
use Rattle.named_indexes.proofs.changes.some_made.Given as goal

-- none so far
abbrev pub invariant-loop-fault : goal.invariant-loop-fault
invariant-loop-fault l = list_any is_none (take l.fault-index l.faults) ≡ false
