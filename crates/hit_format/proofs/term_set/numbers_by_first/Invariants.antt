use Rattle.std.proofs.Common.{◌≡◌, ◌++◌, ℕ, List, drop}
use Rattle.hit_format.specs.FirstWords.{begins_with, numbers_at, numbers_of}
use Rattle.hit_format.proofs.term_set.numbers_by_first.Given as goal

-- the numbers so far and those of the terms to come are the numbers
abbrev pub invariant-loop-number : goal.invariant-loop-number
invariant-loop-number l =
    (word : List ℕ) → numbers_at l.numbers word ++ numbers_of (begins_with word) l.number (drop l.number l.terms) ≡ numbers_of (begins_with word) 0 l.terms
