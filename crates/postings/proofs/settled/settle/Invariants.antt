use Rattle.std.proofs.Common.{◌≡◌, ℕ, List, ◌++◌}
use Rattle.std.specs.List.{All}
use Rattle.std.specs.List.Sorted.{IsStrictlySortedBy}
use Rattle.std.specs.Map.{keys_of}
use Rattle.postings.specs.declared.change.Side.{Side}
use Rattle.postings.specs.Dictionary.{word_cmp, value_at}
use Rattle.postings.specs.Changes.{IsSettled}
use Rattle.postings.proofs.RowLemmas.{is_alone, IsAlone}
use Rattle.postings.proofs.settled.settle.Given as goal

abbrev pub invariant-loop-word : goal.invariant-loop-word
invariant-loop-word l = record {
  words : IsStrictlySortedBy word_cmp (keys_of (l.rows.items ++ l.word-iterator));
  each : All IsSettled l.rows.items;
  named : (s : Side) (w : List ℕ) (e : ℕ) → is_alone s e (value_at w (l.rows.items ++ l.word-iterator)) ≡ is_alone s e (value_at w l.initial.word-iterator);
  alone : (s : Side) (w : List ℕ) (e : ℕ) → IsAlone s e (value_at w l.rows.items);
}
