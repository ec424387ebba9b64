-- What the demo prints, by the replies to its requests.
use Rattle.std.specs.Prelude.{ℕ, List, [], ◌++◌, codes, decimal, Option, Some, None, option_and_then, unwrap_or, flat_map, if◌then◌else◌}
use Rattle.std.specs.Option.{option_or}
use Rattle.std.specs.Str.{is_utf8}
use Rattle.serde_json.specs.Data.{Data, null, Items, no_items, item}
use Rattle.serde_json.specs.Find.{get, as_number, as_u64, as_array}
use Rattle.serde_json.specs.Read.{read}
use Rattle.demo_input.specs.Steps.{DemoStep}

-- the value that a body is; null where it is no JSON
unfoldable pub value_in : List ℕ → Data
value_in body = unwrap_or (if is_utf8 body then read body else None) null

-- the whole number of this name
abbrev pub number_at : List ℕ → Data → Option ℕ
number_at name d = option_and_then as_u64 (option_and_then as_number (get name d))

-- how many documents a search found; 0 where its reply does not say
abbrev pub total_in : Data → ℕ
total_in d = unwrap_or (option_or (number_at (codes "estimatedTotalHits") d) (number_at (codes "totalHits") d)) 0

abbrev pub id_text : Option ℕ → List ℕ
id_text None = []
id_text (Some id) = codes " " ++ decimal id

abbrev pub ids_text : Items → List ℕ
ids_text no_items = []
ids_text (item hit hits) = id_text (number_at (codes "id") hit) ++ ids_text hits

-- the ids of its hits, each behind a blank; nothing for a hit that has no number as id
abbrev pub ids_in : Data → List ℕ
ids_in d = ids_text (unwrap_or (option_and_then as_array (get (codes "hits") d)) no_items)

-- the line of a search, by its number and the value of its reply
unfoldable pub line_of : ℕ → Data → List ℕ
line_of number d =
    codes "search " ++ (decimal number ++ (codes " total " ++ (decimal (total_in d)
    ++ (codes " ids" ++ (ids_in d ++ codes "\n")))))

-- the line of a search, by its number and the body of its reply
abbrev pub search_line : ℕ → List ℕ → List ℕ
search_line number body = line_of number (value_in body)

-- the first line
unfoldable pub first_line : ℕ → List ℕ
first_line count = codes "documents " ++ (decimal count ++ codes "\n")

-- what a request adds, by the body of the reply to it: its line where it is a search, and else nothing
abbrev pub line_for : Option ℕ → List ℕ → List ℕ
line_for None body = []
line_for (Some number) body = search_line number body

-- all that the demo of so many documents prints, by its requests in order, each with the body of the reply to it
abbrev pub summary : ℕ → List (DemoStep × List ℕ) → List ℕ
summary count replied = first_line count ++ flat_map (λ r. line_for r.0.search r.1) replied
