use Rattle.std.proofs.Common.{◌≡◌, ◌<◌, max, drop, length}
use Rattle.std.specs.List.{AllByRecursion}
use Rattle.hit_format.specs.FirstWords.{longest_at}
use Rattle.hit_format.proofs.term_set.longest_at.Given as goal

-- the most so far and the most of the terms with the numbers that are left
abbrev pub invariant-loop-number : goal.invariant-loop-number
invariant-loop-number l = record {
  most : max l.most (longest_at l.tokens l.terms (drop l.number-index l.numbers)) ≡ longest_at l.tokens l.terms l.numbers;
  within : AllByRecursion (λ n. n < length l.terms) (drop l.number-index l.numbers);
}
