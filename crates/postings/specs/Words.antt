-- The words of a dictionary in order, with their lists.
use Rattle.std.specs.Prelude.{ℕ, List, [], ◌∷◌, Option}
use Rattle.postings.specs.declared.slots.Slot.{Slot}
use Rattle.postings.specs.Prefixes.{entries_in, with_list}

-- the lists of words that are not empty, by their numbers
abbrev pub shown_rows : List (Option Slot) → List (List ℕ × ℕ) → List (List ℕ × List ℕ)
shown_rows slots [] = []
shown_rows slots (row ∷ rows) = with_list row.0 (entries_in slots row.1) (shown_rows slots rows)
