-- The call that a request is, or why it is none: its first fault in the order in which it is tried.
use Rattle.std.specs.Prelude.{◌≡◌, ◌<◌, ◌≤◌, ℕ, List, [], ◌∷◌, length, codes, true, false, Option, None, IfSome, Result, Ok, Err}
use Rattle.serde_json.specs.Data.{Data, depth}
use Rattle.serde_json.specs.Written.{has_float}
use Rattle.serde_json.specs.Read.{max_depth}
use Rattle.index_settings.specs.Table.{patch_fault}
use Rattle.document_changes.specs.Changes.{KindData, ChangeData, change_view, create, drop_index, replace, update, remove, clear, patch, reset}
use Rattle.doc_values.specs.Ids.{is_uid}
use Rattle.http_wire.specs.Stream.{Request}
use Rattle.http_wire.specs.Sent.{IsSentAs}
use Rattle.request_refusals.specs.declared.refusal.Refusal.{Refusal}
use Rattle.request_refusals.specs.declared.refusal.Refusal.TheVariants.{InvalidTaskUid}
use Rattle.search_base.specs.Trying.{◌>>=◌, ◌>>◌, or_refuse}
use Rattle.request_calls.specs.Refusals.{refused}
use Rattle.request_routes.specs.declared.routes.Route.{Route}
use Rattle.request_routes.specs.declared.routes.Route.TheVariants.{Health, CreateIndex, ListIndexes, ShowIndex, DropIndex, AddDocuments, UpdateDocuments, ListDocuments, ClearDocuments, ShowDocument, RemoveDocument, RemoveDocuments, ShowSettings, PatchSettings, ResetSettings, Search, SearchByQuery, MultiSearch, FacetSearch, ShowTask}
use Rattle.request_routes.specs.Routes.{path_of, query_of, parts_of, route_of, task_number, named_fault}
use Rattle.request_routes.specs.Query.{Pair, query_for, value_of, count_in, fields_in}
use Rattle.request_calls.specs.declared.call.Call.{Call}
use Rattle.request_calls.specs.declared.call.Call.TheVariants as call
use Rattle.request_calls.specs.Bodies.{index_in, documents_in, ids_in, patch_in}
use Rattle.search_bodies.specs.Searches.{search_of, search_by}
use Rattle.search_bodies.specs.Multi.{multi_of}
use Rattle.search_bodies.specs.FacetSearches.{facets_of}
use Rattle.request_calls.specs.Asked.{CallData, write, read, read_view}
use Rattle.request_calls.specs.Asked as asked

-- what a route makes of the uid and the id of its path, of the query string and of the body
abbrev pub call_at : Route → List ℕ → List ℕ → List Pair → List ℕ → Result CallData Refusal
call_at Health uid id query body = Ok (read asked.health)
call_at CreateIndex uid id query body = do
  index ← index_in body
  Ok (write (record { uid = index.0; kind = create index.1 }))
call_at ListIndexes uid id query body =
    Ok (read (asked.indexes (count_in (codes "offset") 0 query) (count_in (codes "limit") 20 query)))
call_at ShowIndex uid id query body = Ok (read (asked.index uid))
call_at DropIndex uid id query body = Ok (write (record { uid = uid; kind = drop_index }))
call_at AddDocuments uid id query body = do
  documents ← documents_in body
  Ok (write (record { uid = uid; kind = replace (value_of (codes "primaryKey") query) documents }))
call_at UpdateDocuments uid id query body = do
  documents ← documents_in body
  Ok (write (record { uid = uid; kind = update (value_of (codes "primaryKey") query) documents }))
call_at ListDocuments uid id query body =
    Ok (read (asked.documents uid
    (count_in (codes "offset") 0 query) (count_in (codes "limit") 20 query) (fields_in query)))
call_at ClearDocuments uid id query body = Ok (write (record { uid = uid; kind = clear }))
call_at ShowDocument uid id query body = Ok (read (asked.document uid id (fields_in query)))
call_at RemoveDocument uid id query body = Ok (write (record { uid = uid; kind = remove (id ∷ []) }))
call_at RemoveDocuments uid id query body = do
  ids ← ids_in body
  Ok (write (record { uid = uid; kind = remove ids }))
call_at ShowSettings uid id query body = Ok (read (asked.settings uid))
call_at PatchSettings uid id query body = do
  members ← patch_in body
  Ok (write (record { uid = uid; kind = patch members }))
call_at ResetSettings uid id query body = Ok (write (record { uid = uid; kind = reset }))
call_at Search uid id query body = do
  search ← search_of body
  Ok (read (asked.search uid search))
call_at SearchByQuery uid id query body = do
  search ← search_by query
  Ok (read (asked.search uid search))
call_at MultiSearch uid id query body = do
  calls ← multi_of body
  Ok (read (asked.multi calls))
call_at FacetSearch uid id query body = do
  call ← facets_of body
  Ok (read (asked.facets uid call))
call_at ShowTask uid id query body = do
  number ← or_refuse InvalidTaskUid (task_number uid)
  Ok (read (asked.task number))

-- the path and the method, the uid of an index or of a task, the query string, and the body
abbrev pub call_of : Request → Result CallData Refusal
call_of q = do
  found ← route_of q.method (parts_of (path_of q.target))
  query ← (named_fault found.route found.uid >> query_for found.route (query_of q.target))
  call_at found.route found.uid found.id query q.body

-- the call is that of the definition; a refused one comes with its reply
abbrev pub IsCall : Call → Result CallData Refusal → Type 0
IsCall (call.Refused reply) defined = (r : Refusal) × (defined ≡ Err r) × IsSentAs reply (refused r)
IsCall (call.Write change) defined = defined ≡ Ok (write (change_view change))
IsCall (call.Read c) defined = defined ≡ Ok (read (read_view c))

-- a key is not empty
abbrev pub IsKey : Option (List ℕ) → Type 0
IsKey key = IfSome key (λ text. 0 < length text)

-- a patch that settings accept has no fault and no float, and nests no deeper than a JSON text may
pub record IsPatch (members : Data) : Type 0 where
  pub accepted : patch_fault members ≡ None
  pub whole : has_float members ≡ false
  pub shallow : depth members ≤ max_depth

abbrev pub IsAcceptedKind : KindData → Type 0
IsAcceptedKind (create key) = IsKey key
IsAcceptedKind drop_index = Unit {0}
IsAcceptedKind (replace key documents) = IsKey key
IsAcceptedKind (update key documents) = IsKey key
IsAcceptedKind (remove ids) = Unit {0}
IsAcceptedKind clear = Unit {0}
IsAcceptedKind (patch members) = IsPatch members
IsAcceptedKind reset = Unit {0}

-- what a change says is what an index takes: its uid is one, its key is not empty, and its patch has no fault
pub record IsAccepted (change : ChangeData) : Type 0 where
  pub uid : is_uid change.uid ≡ true
  pub kind : IsAcceptedKind change.kind

abbrev pub OnChange : (ChangeData → Type 0) → Call → Type 0
OnChange P (call.Refused reply) = Unit {0}
OnChange P (call.Write change) = P (change_view change)
OnChange P (call.Read c) = Unit {0}
