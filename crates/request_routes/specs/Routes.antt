-- The routes, and which of them a request takes.
use Rattle.std.specs.Prelude.{ℕ, List, [], ◌∷◌, length, filter, find, Bool, true, false, ◌&&◌, ◌||◌, ◌==◌, nat_lt, codes, Option, Some, None, is_some, Result, Ok, Err, if◌then◌else◌}
use Rattle.std.specs.List.{before_first, after_first}
use Rattle.std.specs.Str.{bytes_eq}
use Rattle.form_urlencoded.specs.Form.{split}
use Rattle.doc_values.specs.Ids.{is_uid}
use Rattle.request_refusals.specs.declared.refusal.Refusal.{Refusal}
use Rattle.request_refusals.specs.declared.refusal.Refusal.TheVariants.{NoRoute, MethodNotAllowed, InvalidUid, InvalidTaskUid}
use Rattle.search_base.specs.Trying.{or_refuse, ◌>>=◌}
use Rattle.request_routes.specs.Query.{number_of}
use Rattle.request_routes.specs.declared.routes.Route.{Route}
use Rattle.request_routes.specs.declared.routes.Route.TheVariants.{Health, CreateIndex, ListIndexes, ShowIndex, DropIndex, AddDocuments, UpdateDocuments, ListDocuments, ClearDocuments, ShowDocument, RemoveDocument, RemoveDocuments, ShowSettings, PatchSettings, ResetSettings, Search, SearchByQuery, MultiSearch, FacetSearch, ShowTask}

-- ---- the table

-- a part of a route's path: this text, or any text that is not empty, as the uid of an index or of a task, or the id of
-- a document
pub data Part : Type 0 where
  text : List ℕ → Part
  any_uid : Part
  any_id : Part

pub record Row : Type 0 where
  pub method : List ℕ
  pub path : List Part
  pub route : Route

abbrev pub row : List ℕ → List Part → Route → Row
row method path route = record { method = method; path = path; route = route }

-- a path begins with `/`, so its first part is empty
abbrev pub health : List Part
health = text [] ∷ text (codes "health") ∷ []

abbrev pub indexes : List Part
indexes = text [] ∷ text (codes "indexes") ∷ []

abbrev pub index : List Part
index = text [] ∷ text (codes "indexes") ∷ any_uid ∷ []

abbrev pub multi_search : List Part
multi_search = text [] ∷ text (codes "multi-search") ∷ []

abbrev pub task : List Part
task = text [] ∷ text (codes "tasks") ∷ any_uid ∷ []

-- `/indexes/{uid}/` and one part more
abbrev pub of_index : List ℕ → List Part
of_index last = text [] ∷ text (codes "indexes") ∷ any_uid ∷ text last ∷ []

-- `/indexes/{uid}/documents/` and one part more
abbrev pub of_documents : Part → List Part
of_documents last = text [] ∷ text (codes "indexes") ∷ any_uid ∷ text (codes "documents") ∷ last ∷ []

abbrev pub routes : List Row
routes =
    row (codes "GET") health Health
    ∷ row (codes "POST") indexes CreateIndex
    ∷ row (codes "GET") indexes ListIndexes
    ∷ row (codes "GET") index ShowIndex
    ∷ row (codes "DELETE") index DropIndex
    ∷ row (codes "POST") (of_index (codes "documents")) AddDocuments
    ∷ row (codes "PUT") (of_index (codes "documents")) UpdateDocuments
    ∷ row (codes "GET") (of_index (codes "documents")) ListDocuments
    ∷ row (codes "DELETE") (of_index (codes "documents")) ClearDocuments
    ∷ row (codes "GET") (of_documents any_id) ShowDocument
    ∷ row (codes "DELETE") (of_documents any_id) RemoveDocument
    ∷ row (codes "POST") (of_documents (text (codes "delete-batch"))) RemoveDocuments
    ∷ row (codes "GET") (of_index (codes "settings")) ShowSettings
    ∷ row (codes "PATCH") (of_index (codes "settings")) PatchSettings
    ∷ row (codes "DELETE") (of_index (codes "settings")) ResetSettings
    ∷ row (codes "POST") (of_index (codes "search")) Search
    ∷ row (codes "GET") (of_index (codes "search")) SearchByQuery
    ∷ row (codes "POST") multi_search MultiSearch
    ∷ row (codes "POST") (of_index (codes "facet-search")) FacetSearch
    ∷ row (codes "GET") task ShowTask
    ∷ []

-- ---- a request's path

-- a target is a path, and after its first `?` a query string
abbrev pub path_of : List ℕ → List ℕ
path_of target = before_first (λ b. b == 63) target

abbrev pub query_of : List ℕ → List ℕ
query_of target = after_first (λ b. b == 63) target

-- the parts of a path, between the `/`
abbrev pub parts_of : List ℕ → List (List ℕ)
parts_of path = split 47 path

abbrev pub is_part : Part → List ℕ → Bool
is_part (text t) part = bytes_eq part t
is_part any_uid part = nat_lt 0 (length part)
is_part any_id part = nat_lt 0 (length part)

-- whether a path has the parts of a route
abbrev pub agrees : List Part → List (List ℕ) → Bool
agrees [] [] = true
agrees [] (part ∷ parts) = false
agrees (p ∷ ps) [] = false
agrees (p ∷ ps) (part ∷ parts) = is_part p part && agrees ps parts

-- the uid that a path names, or the empty text where it names none
abbrev pub uid_in : List Part → List (List ℕ) → List ℕ
uid_in [] parts = []
uid_in (p ∷ ps) [] = []
uid_in (text t ∷ ps) (part ∷ parts) = uid_in ps parts
uid_in (any_uid ∷ ps) (part ∷ parts) = part
uid_in (any_id ∷ ps) (part ∷ parts) = uid_in ps parts

-- the id that a path names, or the empty text where it names none
abbrev pub id_in : List Part → List (List ℕ) → List ℕ
id_in [] parts = []
id_in (p ∷ ps) [] = []
id_in (text t ∷ ps) (part ∷ parts) = id_in ps parts
id_in (any_uid ∷ ps) (part ∷ parts) = id_in ps parts
id_in (any_id ∷ ps) (part ∷ parts) = part

-- ---- the route

-- a route, with what its path names
pub record Found : Type 0 where
  pub route : Route
  pub uid : List ℕ
  pub id : List ℕ

abbrev pub has_path : List (List ℕ) → Row → Bool
has_path parts r = agrees r.path parts

abbrev pub with_method : List ℕ → List Row → Result Row Refusal
with_method method [] = Err NoRoute
with_method method (r ∷ rs) = or_refuse MethodNotAllowed (find (λ r. bytes_eq method r.method) (r ∷ rs))

-- the row whose path and method the request has
abbrev pub route_of : List ℕ → List (List ℕ) → Result Found Refusal
route_of method parts = do
  r ← with_method method (filter (has_path parts) routes)
  Ok (record { route = r.route; uid = uid_in r.path parts; id = id_in r.path parts })

-- ---- the uid

-- whether there are several digits, and the first is 0
abbrev pub is_padded : List ℕ → Bool
is_padded [] = false
is_padded (b ∷ []) = false
is_padded (b ∷ c ∷ bytes) = b == 48

-- the number that the uid of a task writes, in 1 to 19 decimal digits, of which several do not begin with 0
abbrev pub task_number : List ℕ → Option ℕ
task_number uid = if nat_lt 19 (length uid) || is_padded uid then None else number_of uid

abbrev pub task_fault : List ℕ → Option Refusal
task_fault uid = if is_some (task_number uid) then None else Some InvalidTaskUid

-- the uid of an index that a path names (no named part is empty)
abbrev pub uid_fault : List ℕ → Option Refusal
uid_fault [] = None
uid_fault (b ∷ bytes) = if is_uid (b ∷ bytes) then None else Some InvalidUid

-- whether the uid in the path is that of a task
abbrev pub names_task : Route → Bool
names_task ShowTask = true
names_task _ = false

-- what is wrong with the uid that the path of a route names
abbrev pub named_fault : Route → List ℕ → Option Refusal
named_fault route uid = if names_task route then task_fault uid else uid_fault uid
