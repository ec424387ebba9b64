-- The items of a query text.
use Rattle.std.specs.Prelude.{◌≡◌, ℕ, ◌<◌, ◌≤◌, ◌==◌, Bool, true, false, not, ◌&&◌, if◌then◌else◌}
use Rattle.std.specs.Prelude.{List, [], ◌∷◌, ◌++◌, length, map, take, filter}
use Rattle.std.specs.List.{list_any, list_all, slice_split, AllByRecursion}
use Rattle.std.specs.Str.{bytes_eq}
use Rattle.search_base.specs.declared.token.Token.{Token}
use Rattle.token_words.specs.Tokens.{tokens}
use Rattle.query_graph.specs.ItemView.{ItemView}

-- how many items of a query are read
abbrev pub most_items : ℕ
most_items = 10

-- the parts of a text that double quotes cut it into. The first stands outside quotes, the second inside, and so on in
-- turn: a quote that is not closed runs to the end
abbrev pub parts : List ℕ → List (List ℕ)
parts q = slice_split (λ byte. byte == 34) q

-- the item of one word
abbrev pub word_item : Bool → List ℕ → ItemView
word_item prefix word = record { words = word ∷ []; phrase = false; prefix = prefix }

-- An item for each word of a part outside quotes, which ends at this byte. In the last part of the text the last word
-- is the prefix word where it ends with the part, and so with the text
abbrev pub word_items : Bool → ℕ → List Token → List ItemView
word_items last end [] = []
word_items last end (token ∷ []) = word_item (last && (token.end == end)) token.word ∷ []
word_items last end (token ∷ next ∷ later) = word_item false token.word ∷ word_items last end (next ∷ later)

-- the words of a part inside quotes together, if there are any
abbrev pub phrase_items : List Token → List ItemView
phrase_items [] = []
phrase_items (token ∷ later) =
    record { words = map (λ t. t.word) (token ∷ later); phrase = true; prefix = false } ∷ []

-- the items of a part, whose words are cut apart from those of other parts
abbrev pub part_items : Bool → Bool → List ℕ → List ItemView
part_items quoted last part = if quoted then phrase_items (tokens part) else word_items last (length part) (tokens part)

-- the items of the parts, the first of which stands inside quotes or outside
abbrev pub items_in : Bool → List (List ℕ) → List ItemView
items_in quoted [] = []
items_in quoted (part ∷ later) = part_items quoted (length later == 0) part ++ items_in (not quoted) later

-- the first items of the query, as many as are read
abbrev pub first_items : List ℕ → List ItemView
first_items q = take most_items (items_in false (parts q))

abbrev pub is_among : List (List ℕ) → List ℕ → Bool
is_among words word = list_any (bytes_eq word) words

-- the item is a stop word, and not the prefix word. A phrase is none
abbrev pub is_left_out : List (List ℕ) → ItemView → Bool
is_left_out stop_words item = not item.phrase && not item.prefix && list_any (is_among stop_words) item.words

-- the items without the stop words, unless no item would stay
abbrev pub without_stop_words : List (List ℕ) → List ItemView → List ItemView
without_stop_words stop_words items =
    if list_all (is_left_out stop_words) items then items
    else filter (λ item. not (is_left_out stop_words item)) items

-- the items of a query
abbrev pub items_of : List ℕ → List (List ℕ) → List ItemView
items_of q stop_words = without_stop_words stop_words (first_items q)

-- some words, and just one where they were not quoted. The prefix word was not
pub record IsItem (item : ItemView) : Type 0 where
  pub some : 0 < length item.words
  pub one_word : item.phrase ≡ false → length item.words ≡ 1
  pub unquoted : item.prefix ≡ true → item.phrase ≡ false

-- nothing stands behind the prefix word
abbrev pub EndsWithPrefix : List ItemView → Type 0
EndsWithPrefix [] = Unit {0}
EndsWithPrefix (item ∷ items) = (item.prefix ≡ true → items ≡ []) × EndsWithPrefix items

-- at most ten items
pub record AreItems (items : List ItemView) : Type 0 where
  pub few : length items ≤ most_items
  pub each : AllByRecursion IsItem items
  pub prefix : EndsWithPrefix items
