use Rattle.std.proofs.Common.{◌≡◌, ℕ, ◌<◌, List, None, get_or}
use Rattle.postings.specs.Dictionary.{lists_of, value_at, entries_of, pages_at, IsNumbered, RoomAt}
use Rattle.postings.specs.declared.change.WordChange.{WordChange}
use Rattle.postings.proofs.dictionary.reserve_words.Given as goal

abbrev pub invariant-loop-row : goal.invariant-loop-row
invariant-loop-row l = record {
  numbered : IsNumbered (lists_of l.lists);
  lists : (w : List ℕ) → entries_of (pages_at w (lists_of l.lists)) ≡ entries_of (pages_at w (lists_of l.initial.lists));
  others : (w : List ℕ) → value_at w l.rows ≡ None → pages_at w (lists_of l.lists) ≡ pages_at w (lists_of l.initial.lists);
  room : (k : ℕ) (d : List ℕ × WordChange) → k < l.row-index → RoomAt (pages_at (get_or l.rows k d).0 (lists_of l.lists)) (get_or l.rows k d).1.come.items;
}
