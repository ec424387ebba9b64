-- The words that begin so, with their lists.
use Rattle.std.specs.Prelude.{ℕ, List, [], ◌∷◌, nat_eq, if◌then◌else◌, Option, Some}
use Rattle.std.specs.List.{starts_with}
use Rattle.postings.specs.declared.slots.Slot.{Slot}
use Rattle.postings.specs.Dictionary.{entries_of, pages_in}
use Rattle.postings.specs.declared.prefix.PrefixLists.{PrefixLists}

-- the entries of the list of a number
abbrev pub entries_in : List (Option Slot) → ℕ → List ℕ
entries_in slots number = entries_of (pages_in slots (Some number))

-- the rows, and a list at a word before them, if it is not empty
abbrev pub with_list : List ℕ → List ℕ → List (List ℕ × List ℕ) → List (List ℕ × List ℕ)
with_list word [] rows = rows
with_list word (x ∷ xs) rows = (word, x ∷ xs) ∷ rows

-- the lists of the first words, as far as they begin so, by their numbers
abbrev pub first_rows : List (Option Slot) → List ℕ → List (List ℕ × ℕ) → List (List ℕ × List ℕ)
first_rows slots prefix [] = []
first_rows slots prefix (row ∷ rows) =
    if starts_with nat_eq row.0 prefix then with_list row.0 (entries_in slots row.1) (first_rows slots prefix rows)
    else []

-- the words that are left, with their lists
abbrev pub rows_left : PrefixLists → List (List ℕ × List ℕ)
rows_left left = if left.done then [] else first_rows left.slots.now left.prefix.now left.lists
