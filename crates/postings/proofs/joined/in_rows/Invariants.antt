use Rattle.std.proofs.Common.{◌≡◌, ◌++◌}
use Rattle.std.specs.List.Sorted.{IsStrictlySortedBy}
use Rattle.std.specs.Map.{keys_of}
use Rattle.postings.specs.Dictionary.{word_cmp}
use Rattle.postings.proofs.joined.in_rows.Given as goal

abbrev pub invariant-loop-row : goal.invariant-loop-row
invariant-loop-row l = record {
  words : IsStrictlySortedBy word_cmp (keys_of l.fn.words.entries);
  all : l.rows.items ++ l.row-iterator ≡ l.fn.words.entries;
}
