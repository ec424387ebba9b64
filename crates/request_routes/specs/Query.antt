-- Query strings.
use Rattle.std.specs.Prelude.{ℕ, ◌^◌, List, [], ◌∷◌, length, map, Bool, true, false, ◌&&◌, ◌||◌, nat_lt, nat_le, codes, Option, Some, None, Result, Ok, if◌then◌else◌}
use Rattle.std.specs.List.{list_any, list_all}
use Rattle.std.specs.Map.{lookup}
use Rattle.std.specs.Str.{bytes_eq}
use Rattle.std.specs.Str.Lossy.{utf8_lossy}
use Rattle.std.specs.Str.Parse.{digits_value}
use Rattle.form_urlencoded.specs.Form.{raw_pairs, decode, split}
use Rattle.request_refusals.specs.declared.refusal.Refusal.{Refusal}
use Rattle.request_refusals.specs.declared.refusal.Refusal.TheVariants.{Unknown}
use Rattle.search_base.specs.Trying.{◌>>◌}
use Rattle.request_routes.specs.declared.routes.Route.{Route}
use Rattle.request_routes.specs.declared.routes.Route.TheVariants.{Health, CreateIndex, ListIndexes, ShowIndex, DropIndex, AddDocuments, UpdateDocuments, ListDocuments, ClearDocuments, ShowDocument, RemoveDocument, RemoveDocuments, ShowSettings, PatchSettings, ResetSettings, Search, SearchByQuery, MultiSearch, FacetSearch, ShowTask}
use Rattle.request_routes.specs.declared.query.Shape.{Shape}
use Rattle.request_routes.specs.declared.query.Shape.TheVariants.{Count, Text, Texts}

-- ---- the pairs

-- a name and its value
abbrev pub Pair : Type 0
Pair = List ℕ × List ℕ

-- what the bytes of a name or a value stand for
abbrev pub decoded : List ℕ → List ℕ
decoded bytes = utf8_lossy (decode bytes)

-- the pairs of a query string, in the syntax of HTML forms
abbrev pub pairs_of : List ℕ → List Pair
pairs_of query = map (λ pair. (decoded pair.0, decoded pair.1)) (raw_pairs query)

abbrev pub has_name : List ℕ → List Pair → Bool
has_name name pairs = list_any (λ pair. bytes_eq pair.0 name) pairs

-- of a repeated name the last pair alone counts, at its own place
abbrev pub last_pairs : List Pair → List Pair
last_pairs [] = []
last_pairs (pair ∷ pairs) = if has_name pair.0 pairs then last_pairs pairs else pair ∷ last_pairs pairs

-- ---- the values

abbrev pub is_digit : ℕ → Bool
is_digit b = nat_le 48 b && nat_le b 57

-- decimal digits, which write a number below 2^64
abbrev pub is_count : List ℕ → Bool
is_count text = nat_lt 0 (length text) && (list_all is_digit text && nat_lt (digits_value 10 text) (2 ^ 64))

-- the number that they write
abbrev pub number_of : List ℕ → Option ℕ
number_of text = if is_count text then Some (digits_value 10 text) else None

-- a list is written with commas, and the empty text is the empty list
abbrev pub texts_of : List ℕ → List (List ℕ)
texts_of [] = []
texts_of (b ∷ bytes) = split 44 (b ∷ bytes)

-- whether a value has the shape: a number, a text that is not empty, a list of texts
abbrev pub has_shape : Shape → List ℕ → Bool
has_shape Count value = is_count value
has_shape Text value = nat_lt 0 (length value)
has_shape Texts value = true

-- ---- the names of each route

abbrev pub window : List (List ℕ × Shape)
window = (codes "offset", Count) ∷ (codes "limit", Count) ∷ []

abbrev pub names : Route → List (List ℕ × Shape)
names Health = []
names CreateIndex = []
names ListIndexes = window
names ShowIndex = []
names DropIndex = []
names AddDocuments = (codes "primaryKey", Text) ∷ []
names UpdateDocuments = (codes "primaryKey", Text) ∷ []
names ListDocuments = (codes "offset", Count) ∷ (codes "limit", Count) ∷ (codes "fields", Texts) ∷ []
names ClearDocuments = []
names ShowDocument = (codes "fields", Texts) ∷ []
names RemoveDocument = []
names RemoveDocuments = []
names ShowSettings = []
names PatchSettings = []
names ResetSettings = []
names Search = []
names SearchByQuery = []
names MultiSearch = []
names FacetSearch = []
names ShowTask = []

abbrev pub is_shaped : List ℕ → Option Shape → Bool
is_shaped value None = false
is_shaped value (Some shape) = has_shape shape value

-- the pairs of a search are tried where it is read, as its members
abbrev pub takes_each : Route → Bool
takes_each SearchByQuery = true
takes_each _ = false

-- whether a route takes a pair
abbrev pub takes : Route → Pair → Bool
takes route pair = takes_each route || is_shaped pair.1 (lookup (bytes_eq pair.0) (names route))

-- the first pair that the route does not take
abbrev pub first_unknown : Route → List Pair → Option Refusal
first_unknown route [] = None
first_unknown route (pair ∷ pairs) = if takes route pair then first_unknown route pairs else Some (Unknown pair.0)

-- the pairs that count, where the route takes each
abbrev pub query_for : Route → List ℕ → Result (List Pair) Refusal
query_for route query =
    let pairs = last_pairs (pairs_of query) in
    first_unknown route pairs >> Ok pairs

-- ---- what they say

-- the value of a name
abbrev pub value_of : List ℕ → List Pair → Option (List ℕ)
value_of name [] = None
value_of name (pair ∷ pairs) = if bytes_eq pair.0 name then Some pair.1 else value_of name pairs

abbrev pub count_or : ℕ → Option (List ℕ) → ℕ
count_or default None = default
count_or default (Some value) = if is_count value then digits_value 10 value else default

abbrev pub texts_or_all : Option (List ℕ) → List (List ℕ)
texts_or_all None = codes "*" ∷ []
texts_or_all (Some value) = texts_of value

-- the number of a name, or its default
abbrev pub count_in : List ℕ → ℕ → List Pair → ℕ
count_in name default pairs = count_or default (value_of name pairs)

-- the names of the members that are asked for: `*`, which stands for all, where none are named
abbrev pub fields_in : List Pair → List (List ℕ)
fields_in pairs = texts_or_all (value_of (codes "fields") pairs)
