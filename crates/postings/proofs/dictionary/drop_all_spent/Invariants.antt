use Rattle.std.proofs.Common.{◌≡◌, ℕ, List, drop}
use Rattle.postings.specs.Dictionary.{lists_of, entries_of, pages_at, IsNumbered, IsTight}
use Rattle.postings.proofs.dictionary.drop_all_spent.Given as goal

abbrev pub invariant-loop-row : goal.invariant-loop-row
invariant-loop-row l = record {
  numbered : IsNumbered (lists_of l.lists);
  lists : (w : List ℕ) → entries_of (pages_at w (lists_of l.lists)) ≡ entries_of (pages_at w (lists_of l.initial.lists));
  tight : IsTight l.rows (lists_of l.initial.lists) → IsTight (drop l.row-index l.rows) (lists_of l.lists);
}
