use Rattle.std.proofs.Common.{◌≡◌, ◌++◌, drop}
use Rattle.hit_format.specs.FirstWords.{is_prefix, numbers_of}
use Rattle.hit_format.proofs.term_set.prefix_numbers.Given as goal

-- the numbers so far and those of the terms to come are the numbers
abbrev pub invariant-loop-number : goal.invariant-loop-number
invariant-loop-number l = l.numbers.items ++ numbers_of is_prefix l.number (drop l.number l.terms) ≡ numbers_of is_prefix 0 l.terms
