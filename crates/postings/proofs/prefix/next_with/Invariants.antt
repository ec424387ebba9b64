use Rattle.std.proofs.Common.{◌≡◌, length}
use Rattle.postings.specs.Prefixes.{first_rows}
use Rattle.postings.proofs.prefix.next_with.Given as goal

abbrev pub invariant-loop-word : goal.invariant-loop-word
invariant-loop-word l = first_rows l.slots l.prefix l.lists ≡ first_rows l.slots l.prefix l.initial.lists

abbrev pub decreases-loop-word : goal.decreases-loop-word
decreases-loop-word l = length l.lists
