use Rattle.std.proofs.Common.{◌≡◌, ◌<◌, ◌++◌, length, map, drop}
use Rattle.std.specs.List.{AllByRecursion}
use Rattle.synonym_terms.proofs.KeyLemmas.{row_at}
use Rattle.synonym_terms.proofs.table.terms_at.Given as goal

-- the terms so far and those of the numbers to come are the terms
abbrev pub invariant-loop-number : goal.invariant-loop-number
invariant-loop-number l = record {
  told : l.terms.items ++ map (row_at l.rows) (drop l.number-index l.numbers) ≡ map (row_at l.rows) l.numbers;
  within : AllByRecursion (λ n. n < length l.rows) (drop l.number-index l.numbers);
}
