use Rattle.std.proofs.Common.{take}
use Rattle.std.specs.List.{AllByRecursion}
use Rattle.posting_list.specs.Sets.{IsWithin}
use Rattle.posting_list.proofs.moved.Moved.new.Given as goal

abbrev pub invariant-loop-entry : goal.invariant-loop-entry
invariant-loop-entry l = AllByRecursion (IsWithin l.least l.greatest l.first) (take l.entry-index l.entries)
