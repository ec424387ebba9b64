-- The rows of a document: its words, leaves and marks, path by path.
use Rattle.std.specs.Prelude.{◌≡◌, ℕ, ◌+◌, Bool, true, false, nat_le, List, [], ◌∷◌, ◌++◌, map, filter, Option, Some}
use Rattle.std.specs.Prelude.{None}
use Rattle.std.specs.List.{filter_map}
use Rattle.serde_json.specs.Data.{Data}
use Rattle.search_base.specs.declared.document.Leaf.{Leaf}
use Rattle.search_base.specs.declared.document.Mark.{Mark}
use Rattle.search_base.specs.declared.document.Place.{Place}
use Rattle.search_base.specs.declared.token.Token.{Token}
use Rattle.search_base.specs.RowsView.{RowsView}
use Rattle.token_words.specs.Tokens.{tokens}
use Rattle.doc_values.specs.Leaves.{found_at}
use Rattle.doc_values.specs.Walk.{Visit, walk}
use Rattle.doc_values.specs.declared.rows.Flat.{Flat}
use Rattle.doc_rows.specs.declared.path_use.PathUse.{PathUse}
use Rattle.doc_rows.specs.Facets.{leaves_of_path, marks_of_path}
use Rattle.doc_rows.specs.Texts.{leaf_text}

-- the last position of a path that is searched
abbrev pub last_searched : ℕ
last_searched = 65535

-- the step from the last word of a text to the first word of the path's next text
abbrev pub text_step : ℕ
text_step = 8

-- a word of a path with this number and rank, in a text whose first word has the position `start`
abbrev pub place_of : ℕ → ℕ → ℕ → Token → Place
place_of number rank start token =
    record { path = record { 0 = number }; rank = rank; position = start + token.position; word = token.word }

-- where the path's next text starts, after a text that starts at `start` and has these words
abbrev pub next_start : ℕ → List Token → ℕ
next_start start [] = start
next_start start (last ∷ []) = start + last.position + text_step
next_start start (token ∷ next ∷ later) = next_start start (next ∷ later)

-- the words of a path with these texts, of which the first starts at `start`
abbrev pub all_places : ℕ → ℕ → ℕ → List (List ℕ) → List Place
all_places number rank start [] = []
all_places number rank start (text ∷ texts) =
    map (place_of number rank start) (tokens text) ++ all_places number rank (next_start start (tokens text)) texts

-- Where a text starts behind these words of a path: eight behind the last of them, and here where there is none.
abbrev pub start_behind : ℕ → List Place → ℕ
start_behind start [] = start
start_behind start (last ∷ []) = last.position + text_step
start_behind start (place ∷ next ∷ later) = start_behind start (next ∷ later)

-- The words of one more text start behind those of the others, and stand from one another as `tokens` says.
abbrev pub TextsStandApart : Type 0
TextsStandApart = (number rank : ℕ) (texts : List (List ℕ)) (text : List ℕ)
    → all_places number rank 0 (texts ++ text ∷ [])
    ≡ all_places number rank 0 texts
    ++ map (place_of number rank (start_behind 0 (all_places number rank 0 texts))) (tokens text)

abbrev pub is_searched : Place → Bool
is_searched place = nat_le place.position last_searched

-- the words that are searched of a path with this number, rank and texts
abbrev pub places_of : ℕ → ℕ → List (List ℕ) → List Place
places_of number rank texts = filter is_searched (all_places number rank 0 texts)

-- the same of a path that may have no rank, and is not searched then
abbrev pub places_at : ℕ → Option ℕ → List (List ℕ) → List Place
places_at number None texts = []
places_at number (Some rank) texts = places_of number rank texts

-- no words, leaves or marks
abbrev pub no_rows : RowsView
no_rows = record { places = []; leaves = []; marks = [] }

-- the one behind the other
abbrev pub and_rows : RowsView → RowsView → RowsView
and_rows r s = record { places = r.places ++ s.places; leaves = r.leaves ++ s.leaves; marks = r.marks ++ s.marks }

-- the leaves of a path that is faceted
abbrev pub leaves_at : ℕ → Bool → List Flat → List Leaf
leaves_at number true values = leaves_of_path number values
leaves_at number false values = []

-- and its marks
abbrev pub marks_at : ℕ → Bool → List Flat → List Mark
marks_at number true values = marks_of_path number values
marks_at number false values = []

-- what a search sees of the path with this number, which is used so and has these values
abbrev pub path_rows : ℕ → PathUse → List Flat → RowsView
path_rows number path_use values = record {
  places = places_at number path_use.rank (filter_map leaf_text values);
  leaves = leaves_at number path_use.faceted values;
  marks = marks_at number path_use.faceted values;
}

-- what a search sees of each path, of which the first has this number, in a document whose walk visits these members
abbrev pub rows_from : ℕ → List Visit → List (List ℕ) → List PathUse → RowsView
rows_from number visits [] uses = no_rows
rows_from number visits (path ∷ paths) [] = no_rows
rows_from number visits (path ∷ paths) (path_use ∷ uses) =
    and_rows (path_rows number path_use (found_at path visits)) (rows_from (number + 1) visits paths uses)

-- the rows of a document in an index with these paths, where each has its use
abbrev pub rows_of : Data → List (List ℕ) → List PathUse → RowsView
rows_of document paths uses = rows_from 0 (walk document) paths uses
