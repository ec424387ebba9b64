-- The searches that one body asks for. First the body is tried, and then its queries one after the other.
use Rattle.std.specs.Prelude.{ℕ, ◌+◌, List, [], ◌∷◌, filter, nat_le, Bool, true, false, not, ◌&&◌, codes, Option, Some, None, is_some, option_and_then, Result, Ok, Err, if◌then◌else◌}
use Rattle.std.specs.Str.{bytes_eq}
use Rattle.serde_json.specs.Data.{Data, Items, no_items, item, Members, no_members, member}
use Rattle.serde_json.specs.Events.{items_len}
use Rattle.serde_json.specs.Find.{get, get_member, as_str, as_array, as_object}
use Rattle.search_base.specs.Trying.{◌>>=◌, ◌>>◌, or_refuse}
use Rattle.doc_values.specs.Ids.{is_uid}
use Rattle.request_refusals.specs.declared.refusal.Refusal.{Refusal}
use Rattle.request_refusals.specs.declared.refusal.Refusal.TheVariants.{Unknown, InvalidUid, BadQueries, MissingQueryUid}
use Rattle.search_bodies.specs.MultiData.{MultiData}
use Rattle.search_bodies.specs.Json.{json_in, members_of}
use Rattle.search_bodies.specs.Searches.{Given, given_by, search_given}

-- ---- a query

-- the uid that query k names, from 1
abbrev pub uid_in : ℕ → Option Data → Result (List ℕ) Refusal
uid_in k None = Err (MissingQueryUid k)
uid_in k (Some d) = or_refuse InvalidUid (option_and_then (λ text. if is_uid text then Some text else None) (as_str d))

-- the members of a search among those of a query: all but its uid
abbrev pub given_beside : Option Members → List Given
given_beside None = []
given_beside (Some ms) = filter (λ given. not (bytes_eq given.0 (codes "indexUid"))) (given_by ms)

-- the search that query k asks for, and the index
abbrev pub query_from : ℕ → Data → Result MultiData Refusal
query_from k d = do
  uid ← uid_in k (get (codes "indexUid") d)
  call ← search_given (given_beside (as_object d)) d
  Ok (record { uid = uid; call = call })

-- the queries of a list, whose first is query k
abbrev pub queries_from : ℕ → Items → Result (List MultiData) Refusal
queries_from k no_items = Ok []
queries_from k (item d ds) = do
  query ← query_from k d
  more ← queries_from (k + 1) ds
  Ok (query ∷ more)

-- ---- the body

-- the first other member than `queries`, in the byte order of names
abbrev pub other_member : Members → Option Refusal
other_member no_members = None
other_member (member name d ms) = if bytes_eq name (codes "queries") then other_member ms else Some (Unknown name)

abbrev pub are_objects : Items → Bool
are_objects no_items = true
are_objects (item d ds) = is_some (as_object d) && are_objects ds

-- a list of at most 100 objects
abbrev pub queries_in : Data → Option Items
queries_in d =
    option_and_then (λ ds. if nat_le (items_len ds) 100 && are_objects ds then Some ds else None) (as_array d)

abbrev pub multi_from_members : Members → Result (List MultiData) Refusal
multi_from_members ms =
    other_member ms
    >> (or_refuse BadQueries (option_and_then queries_in (get_member (codes "queries") ms)) >>= queries_from 1)

abbrev pub multi_from : Data → Result (List MultiData) Refusal
multi_from d = members_of d >>= multi_from_members

-- the searches that a body asks for, in order
abbrev pub multi_of : List ℕ → Result (List MultiData) Refusal
multi_of body = json_in body >>= multi_from
