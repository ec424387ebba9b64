use Rattle.std.proofs.Common.{◌≡◌, ◌++◌, ℕ, List, drop}
use Rattle.synonym_terms.specs.Keyed.{numbers_at, numbers_of}
use Rattle.synonym_terms.proofs.table.numbers_by_key.Given as goal

-- the numbers so far and those of the rows to come are the numbers
abbrev pub invariant-loop-number : goal.invariant-loop-number
invariant-loop-number l =
    (words : List (List ℕ)) → numbers_at l.numbers words ++ numbers_of words l.number (drop l.number l.rows) ≡ numbers_of words 0 l.rows
