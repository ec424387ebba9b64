-- The patterns of the table's paths: texts in which `_` stands for each named part, the uid and the id.
use Rattle.std.specs.Prelude.{◌≡◌, ℕ, ◌<◌, List, [], ◌∷◌, ◌++◌, length, find, codes, Option, option_map}
use Rattle.std.specs.Str.{bytes_eq}
use Rattle.matchit.specs.Rows.{RowsOf}
use Rattle.matchit.specs.Seek.{first}
use Rattle.matchit.specs.Router.{RouteOf}
use Rattle.request_routes.specs.declared.table.Path.{Path}
use Rattle.request_routes.specs.declared.table.Path.TheVariants.{Health, Indexes, Index, Documents, Document, Settings, Search, MultiSearch, FacetSearch, Task}

-- a path's text, of its parts
abbrev pub joined : List (List ℕ) → List ℕ
joined [] = []
joined (part ∷ []) = part
joined (part ∷ next ∷ parts) = part ++ 47 ∷ joined (next ∷ parts)

-- the parts of a path of the table, with this uid and this id
abbrev pub parts_with : List ℕ → List ℕ → Path → List (List ℕ)
parts_with uid id Health = [] ∷ codes "health" ∷ []
parts_with uid id Indexes = [] ∷ codes "indexes" ∷ []
parts_with uid id Index = [] ∷ codes "indexes" ∷ uid ∷ []
parts_with uid id Documents = [] ∷ codes "indexes" ∷ uid ∷ codes "documents" ∷ []
parts_with uid id Document = [] ∷ codes "indexes" ∷ uid ∷ codes "documents" ∷ id ∷ []
parts_with uid id Settings = [] ∷ codes "indexes" ∷ uid ∷ codes "settings" ∷ []
parts_with uid id Search = [] ∷ codes "indexes" ∷ uid ∷ codes "search" ∷ []
parts_with uid id MultiSearch = [] ∷ codes "multi-search" ∷ []
parts_with uid id FacetSearch = [] ∷ codes "indexes" ∷ uid ∷ codes "facet-search" ∷ []
parts_with uid id Task = [] ∷ codes "tasks" ∷ uid ∷ []

-- a path names a uid and an id, which are not empty, or else they are
abbrev pub Names : Path → List ℕ → List ℕ → Type 0
Names Health uid id = (uid ≡ []) × (id ≡ [])
Names Indexes uid id = (uid ≡ []) × (id ≡ [])
Names Index uid id = (0 < length uid) × (id ≡ [])
Names Documents uid id = (0 < length uid) × (id ≡ [])
Names Document uid id = (0 < length uid) × (0 < length id)
Names Settings uid id = (0 < length uid) × (id ≡ [])
Names Search uid id = (0 < length uid) × (id ≡ [])
Names MultiSearch uid id = (uid ≡ []) × (id ≡ [])
Names FacetSearch uid id = (0 < length uid) × (id ≡ [])
Names Task uid id = (0 < length uid) × (id ≡ [])

-- ---- the patterns

abbrev pub pattern_parts : Path → List (List ℕ)
pattern_parts path = parts_with (codes "_") (codes "_") path

abbrev pub pattern : Path → List ℕ
pattern path = joined (pattern_parts path)

abbrev pub paths : List Path
paths = Health ∷ Document ∷ Documents ∷ FacetSearch ∷ Search ∷ Settings ∷ Index ∷ Indexes ∷ MultiSearch ∷ Task ∷ []

-- the path that has a pattern
abbrev pub path_with : List ℕ → Option Path
path_with text = find (λ path. bytes_eq text (pattern path)) paths

-- a router finds each path by its pattern, and nothing else
abbrev pub FindsPaths : RowsOf (RouteOf Path) → Type 0
FindsPaths rows = (text : List ℕ) → option_map (λ found. found.value) (first rows text) ≡ path_with text

-- ---- the pattern of a request's path

abbrev pub mark : List ℕ → List ℕ
mark [] = []
mark (b ∷ bytes) = codes "_"

-- the third part is the uid, and the fifth the id; a path of fewer than two parts or of more than five has no pattern
abbrev pub marked_parts : List (List ℕ) → List (List ℕ)
marked_parts (root ∷ first ∷ []) = root ∷ first ∷ []
marked_parts (root ∷ first ∷ uid ∷ []) = root ∷ first ∷ mark uid ∷ []
marked_parts (root ∷ first ∷ uid ∷ page ∷ []) = root ∷ first ∷ mark uid ∷ page ∷ []
marked_parts (root ∷ first ∷ uid ∷ page ∷ id ∷ []) = root ∷ first ∷ mark uid ∷ page ∷ mark id ∷ []
marked_parts _ = [] ∷ []
