use Rattle.std.proofs.Common.{ℕ, ◌<◌, ◌≤◌, List, length, take, drop, get_or}
use Rattle.postings.specs.Dictionary.{lists_of, pages_at, IsNumbered, RoomAt, IsTight}
use Rattle.postings.specs.declared.change.WordChange.{WordChange}
use Rattle.postings.proofs.RowLemmas.{Told}
use Rattle.postings.proofs.dictionary.change_words.Given as goal

abbrev pub invariant-loop-row : goal.invariant-loop-row
invariant-loop-row l = record {
  numbered : IsNumbered (lists_of l.lists);
  room : (k : ℕ) (d : List ℕ × WordChange) → l.row-index ≤ k → k < length l.rows → RoomAt (pages_at (get_or l.rows k d).0 (lists_of l.lists)) (get_or l.rows k d).1.come.items;
  tight : IsTight l.rows (lists_of l.initial.lists) → IsTight (drop l.row-index l.rows) (lists_of l.lists);
  told : (word : List ℕ) (entry : ℕ) → Told (lists_of l.initial.lists) (take l.row-index l.rows) (lists_of l.lists) word entry;
}
