-- The tokens of a text: a list over its finished segments.
use Rattle.std.specs.Prelude.{ℕ, ◌+◌, Bool, false, ◌||◌, List, [], ◌∷◌, length, Option, Some, None, if◌then◌else◌}
use Rattle.search_base.specs.declared.token.Token.{Token}
use Rattle.token_words.specs.Normal.{normal}
use Rattle.token_words.specs.Segments.{is_word, is_hard}
use Rattle.unicode_segmentation.specs.Word.{word_bounds}

-- the step from a word's position to the next one's, where a hard separator stands between them or none does
abbrev pub step : Bool → ℕ
step hard = if hard then 8 else 1

-- the position of the word after one at `last`. Positions begin at 0
abbrev pub next_position : Option ℕ → Bool → ℕ
next_position None hard = 0
next_position (Some last) hard = last + step hard

-- the tokens of the segments, of which the first begins at the byte `at`, after a word at the position `last`.
-- `hard` says that one of the separators since then is hard
unfoldable pub tokens_from : Option ℕ → Bool → ℕ → List (List ℕ) → List Token
tokens_from last hard at [] = []
tokens_from last hard at (segment ∷ segments) =
    if is_word segment
    then record { position = next_position last hard; word = normal segment; start = at; end = at + length segment }
    ∷ tokens_from (Some (next_position last hard)) false (at + length segment) segments
    else tokens_from last (hard || is_hard segment) (at + length segment) segments

-- the tokens of a text
abbrev pub tokens : List ℕ → List Token
tokens text = tokens_from None false 0 (word_bounds text)
