-- The documents that the demo makes.
use Rattle.std.specs.Prelude.{ℕ, zero, suc, ◌+◌, ◌%◌, List, [], ◌∷◌, ◌++◌, codes, decimal, slice_index_or}
use Rattle.std.specs.List.{join_with_byte}
use Rattle.demo_input.specs.Draws.{draw}

-- the words of titles
abbrev pub words : List (List ℕ)
words =
    codes "amber" ∷ codes "bridge" ∷ codes "cloud" ∷ codes "delta" ∷ codes "ember" ∷ codes "forest" ∷ codes "garden"
    ∷ codes "harbor" ∷ codes "island" ∷ codes "jungle" ∷ codes "kettle" ∷ codes "lantern" ∷ codes "meadow"
    ∷ codes "north" ∷ codes "ocean" ∷ codes "pebble" ∷ []

abbrev pub tags : List (List ℕ)
tags = codes "red" ∷ codes "green" ∷ codes "blue" ∷ codes "white" ∷ []

-- the word and the tag that a drawn number stands for
abbrev pub word_of : ℕ → List ℕ
word_of x = slice_index_or words (x % 16) []

abbrev pub tag_of : ℕ → List ℕ
tag_of x = slice_index_or tags (x % 4) []

-- four words, with a blank between each two
unfoldable pub title : ℕ → ℕ → ℕ → ℕ → List ℕ
title a b c d = word_of a ++ (codes " " ++ (word_of b ++ (codes " " ++ (word_of c ++ (codes " " ++ word_of d)))))

-- A document by its number, where x was drawn before it. It takes six draws: four words of its title, its tag and its
-- year, from 1990 to 2019.
unfoldable pub document : ℕ → ℕ → List ℕ
document number x =
    codes "{\"id\":" ++ (decimal number
    ++ (codes ",\"tags\":[\"" ++ (tag_of (draw 5 x)
    ++ (codes "\"],\"title\":\"" ++ (title (draw 1 x) (draw 2 x) (draw 3 x) (draw 4 x)
    ++ (codes "\",\"year\":" ++ (decimal (1990 + draw 6 x % 30)
    ++ codes "}")))))))

-- so many documents behind the first `made`, where x was drawn before them
abbrev pub documents : ℕ → ℕ → ℕ → List (List ℕ)
documents zero made x = []
documents (suc n) made x = document (made + 1) x ∷ documents n (made + 1) (draw 6 x)

-- these texts as a list of JSON
unfoldable pub list_text : List (List ℕ) → List ℕ
list_text texts = codes "[" ++ (join_with_byte 44 texts ++ codes "]")
