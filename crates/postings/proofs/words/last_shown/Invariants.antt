use Rattle.std.proofs.Common.{◌≡◌, length}
use Rattle.postings.specs.Words.{shown_rows}
use Rattle.postings.proofs.words.last_shown.Given as goal

abbrev pub invariant-loop-word : goal.invariant-loop-word
invariant-loop-word l = shown_rows l.slots l.lists ≡ shown_rows l.slots l.initial.lists

abbrev pub decreases-loop-word : goal.decreases-loop-word
decreases-loop-word l = length l.lists
