-- The numbers that a filter compares values with.
use Rattle.std.specs.Prelude.{ℕ, ℤ, pos, List, Bool, if◌then◌else◌, Option, Some, None, is_none, unwrap_or}
use Rattle.filter_tree.specs.Number.{number_of}

-- the text writes none
abbrev pub is_no_number : List ℕ → Bool
is_no_number text = is_none (number_of text)

-- the number of a text, or 0 where it writes none
abbrev pub number_or_0 : List ℕ → ℤ
number_or_0 text = unwrap_or (number_of text) (pos 0)

-- the text itself, where it writes none
abbrev pub bad_in : List ℕ → Option (List ℕ)
bad_in text = if is_no_number text then Some text else None
