-- A route that is found has a uid that is not empty, where its path names one.
use Rattle.std.proofs.Common.{◌≡◌, ℕ, zero, suc, ◌<◌, ◌&&◌, ◌||◌, not, Bool, true, false, cond, List, [], ◌∷◌, length, filter, Option, Some, None, Ok, IfOk, refl, sym, arith}
use Rattle.std.specs.Prelude.{nat_lt, find, IfSome}
use Rattle.std.specs.List.{list_all}
use Rattle.std.specs.Str.{bytes_eq}
use Rattle.std.proofs.lemmas.Bool.{true≢false}
use Rattle.search_base.specs.Trying.{◌>>=◌, or_refuse}
use Rattle.request_refusals.specs.declared.refusal.Refusal.TheVariants.{MethodNotAllowed}
use Rattle.request_routes.specs.declared.routes.Route.{Route}
use Rattle.request_routes.specs.declared.routes.Route.TheVariants.{Health, CreateIndex, ListIndexes, ShowIndex, DropIndex, AddDocuments, UpdateDocuments, ListDocuments, ClearDocuments, ShowDocument, RemoveDocument, RemoveDocuments, ShowSettings, PatchSettings, ResetSettings, Search, SearchByQuery, MultiSearch, FacetSearch, ShowTask}
use Rattle.request_routes.specs.Routes.{Part, text, any_uid, any_id, Row, routes, agrees, has_path, uid_in, id_in, with_method, route_of, Found}

abbrev pub names_index : Route → Bool
names_index Health = false
names_index CreateIndex = false
names_index ListIndexes = false
names_index ShowIndex = true
names_index DropIndex = true
names_index AddDocuments = true
names_index UpdateDocuments = true
names_index ListDocuments = true
names_index ClearDocuments = true
names_index ShowDocument = true
names_index RemoveDocument = true
names_index RemoveDocuments = true
names_index ShowSettings = true
names_index PatchSettings = true
names_index ResetSettings = true
names_index Search = true
names_index SearchByQuery = true
names_index MultiSearch = false
names_index FacetSearch = true
names_index ShowTask = false

-- ---- a path

abbrev has_uid : List Part → Bool
has_uid [] = false
has_uid (text t ∷ ps) = has_uid ps
has_uid (any_uid ∷ ps) = true
has_uid (any_id ∷ ps) = has_uid ps

both : (a b : Bool) → (a && b) ≡ true → (a ≡ true) × (b ≡ true)
both true b h = (refl, h)
both false b h = absurd (true≢false (sym h))

some : (n : ℕ) → nat_lt 0 n ≡ true → 0 < n
some zero h = absurd (true≢false (sym h))
some (suc n) h = omega arith

named : (ps : List Part) (parts : List (List ℕ)) → has_uid ps ≡ true → agrees ps parts ≡ true → 0 < length (uid_in ps parts)
named [] parts u a = absurd (true≢false (sym u))
named (p ∷ ps) [] u a = absurd (true≢false (sym a))
named (text t ∷ ps) (x ∷ xs) u a = named ps xs u (both (bytes_eq x t) _ a).1
named (any_uid ∷ ps) (x ∷ xs) u a = some (length x) (both (nat_lt 0 (length x)) _ a).0
named (any_id ∷ ps) (x ∷ xs) u a = named ps xs u (both (nat_lt 0 (length x)) _ a).1

-- ---- the rows of a path

abbrev All : (Row → Type 0) → List Row → Type 0
All P [] = Unit {0}
All P (r ∷ rs) = P r × All P rs

all_kept : (P : Row → Type 0) (f : Row → Bool) (rs : List Row) → All (λ r. f r ≡ true → P r) rs → All P (filter f rs)
all_kept P f [] a = tt
all_kept P f (r ∷ rs) a = go (f r) refl (all_kept P f rs a.1)
  where
    go : (w : Bool) → f r ≡ w → All P (filter f rs) → All P (cond w (r ∷ filter f rs) (filter f rs))
    go true is later = (a.0 is, later)
    go false is later = later

found_one : (P : Row → Type 0) (f : Row → Bool) (rs : List Row) → All P rs → IfSome (find f rs) P
found_one P f [] a = tt
found_one P f (r ∷ rs) a = go (f r) (found_one P f rs a.1)
  where
    go : (w : Bool) → IfSome (find f rs) P → IfSome (cond w (Some r) (find f rs)) P
    go true later = a.0
    go false later = later

abbrev IsNamedRow : List (List ℕ) → Row → Type 0
IsNamedRow parts r = names_index r.route ≡ true → 0 < length (uid_in r.path parts)

-- a row whose route changes or reads the index of its path has a uid in its path
abbrev is_right : Row → Bool
is_right r = not (names_index r.route) || has_uid r.path

right_uid : (a b : Bool) → (not a || b) ≡ true → a ≡ true → b ≡ true
right_uid true b h is = h
right_uid false b h is = absurd (true≢false (sym is))

each_named : (parts : List (List ℕ)) (rs : List Row) → list_all is_right rs ≡ true → All (λ r. has_path parts r ≡ true → IsNamedRow parts r) rs
each_named parts [] h = tt
each_named parts (r ∷ rs) h =
    let p = both (is_right r) (list_all is_right rs) h in
    (λ agree is. named r.path parts (right_uid (names_index r.route) (has_uid r.path) p.0 is) agree, each_named parts rs p.1)

-- ---- the route

abbrev pub IsNamed : Found → Type 0
IsNamed found = names_index found.route ≡ true → 0 < length found.uid

pub found_named : (method : List ℕ) (parts : List (List ℕ)) → IfOk (route_of method parts) IsNamed
found_named method parts =
    go (filter (has_path parts) routes) (all_kept (IsNamedRow parts) (has_path parts) routes (each_named parts routes refl))
  where
    row : (o : Option Row) → IfSome o (IsNamedRow parts)
        → IfOk (or_refuse MethodNotAllowed o >>= λ r. Ok (record { route = r.route; uid = uid_in r.path parts; id = id_in r.path parts })) IsNamed
    row None is = tt
    row (Some r) is = is

    go : (rs : List Row) → All (IsNamedRow parts) rs
        → IfOk (with_method method rs >>= λ r. Ok (record { route = r.route; uid = uid_in r.path parts; id = id_in r.path parts })) IsNamed
    go [] all = tt
    go (r ∷ rs) all = row _ (found_one (IsNamedRow parts) (λ r. bytes_eq method r.method) (r ∷ rs) all)
