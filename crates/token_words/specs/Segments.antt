-- Which segments of a text are words, and which separators are hard.
use Rattle.std.specs.Prelude.{ℕ, Bool, true, false, not, ◌&&◌, ◌||◌, ◌==◌, List, [], ◌∷◌}
use Rattle.std.specs.List.{list_any}
use Rattle.std.specs.Str.{chars}
use Rattle.unicode_segmentation.specs.Segments.{has_alphanumeric}
use Rattle.token_words.specs.Normal.{normal}

abbrev pub is_empty : List ℕ → Bool
is_empty [] = true
is_empty (b ∷ bs) = false

-- the segment holds a letter or a number, and something of it stays in its normal form
unfoldable pub is_word : List ℕ → Bool
is_word segment = has_alphanumeric segment && not (is_empty (normal segment))

-- any other segment
abbrev pub is_separator : List ℕ → Bool
is_separator segment = not (is_word segment)

-- . ; , ! ? ( ) [ ] { } |
abbrev pub is_hard_char : ℕ → Bool
is_hard_char c =
    (c == 46) || (c == 59) || (c == 44) || (c == 33) || (c == 63) || (c == 40) || (c == 41) || (c == 91) || (c == 93) || (c == 123) || (c == 125) || (c == 124)

-- the separator holds a hard character
unfoldable pub is_hard : List ℕ → Bool
is_hard segment = list_any is_hard_char (chars segment)
