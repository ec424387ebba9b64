-- What the definition of a call says of a change: its uid, its key and its patch.
use Rattle.std.proofs.Common.{◌≡◌, ℕ, zero, suc, ◌<◌, ◌≤◌, Bool, true, false, cond, List, [], ◌∷◌, length, codes, Option, Some, None, option_map, Result, Ok, Err, IfOk, refl, sym, subst, arith}
use Rattle.std.specs.Prelude.{nat_lt, IfSome}
use Rattle.std.specs.Ordering.{nat_cmp, match_ordering}
use Rattle.std.specs.declared.cmp.Ordering.{Ordering}
use Rattle.std.specs.declared.cmp.Ordering.TheVariants.{Less, Equal, Greater}
use Rattle.std.specs.Cmp.Lexicographic.{slice_cmp}
use Rattle.std.specs.Str.{is_utf8}
use Rattle.std.proofs.lemmas.Bool.{true≢false}
use Rattle.std.proofs.lemmas.Map.Lookups.{exact_bytes}
use Rattle.serde_json.specs.Data.{Data, null, boolean, number, string, array, object, Members, no_members, member, depth}
use Rattle.serde_json.specs.Find.{get_member}
use Rattle.serde_json.specs.Read.{read, max_depth}
use Rattle.serde_json.proofs.Nesting.{depth-read}
use Rattle.search_base.specs.Trying.{◌>>=◌, ◌>>◌, first_of, or_refuse}
use Rattle.doc_values.specs.Ids.{is_uid}
use Rattle.index_settings.specs.Table.{patch_fault}
use Rattle.index_settings.proofs.Whole.{patch_whole}
use Rattle.index_settings.specs.declared.fault.SettingsRefusal.{SettingsRefusal}
use Rattle.http_wire.specs.Stream.{Request}
use Rattle.request_refusals.specs.declared.refusal.Refusal.{Refusal}
use Rattle.request_refusals.specs.declared.refusal.Refusal.TheVariants.{NotJson, MissingUid, InvalidTaskUid}
use Rattle.request_routes.specs.declared.routes.Route.{Route}
use Rattle.request_routes.specs.declared.routes.Route.TheVariants.{Health, CreateIndex, ListIndexes, ShowIndex, DropIndex, AddDocuments, UpdateDocuments, ListDocuments, ClearDocuments, ShowDocument, RemoveDocument, RemoveDocuments, ShowSettings, PatchSettings, ResetSettings, Search, SearchByQuery, MultiSearch, FacetSearch, ShowTask}
use Rattle.request_routes.specs.Query.{Pair, first_unknown, last_pairs, pairs_of, query_for}
use Rattle.request_routes.specs.Routes.{Found, path_of, query_of, parts_of, route_of, uid_fault, task_number, named_fault}
use Rattle.request_routes.proofs.Keys.{given_key}
use Rattle.request_routes.proofs.Named.{names_index, IsNamed, found_named}
use Rattle.request_calls.specs.Asked.{CallData, write, read as reads}
use Rattle.request_calls.specs.Bodies.{is_key_or_null, is_uid_text, index_member_fault, index_members_fault, index_from_members, index_in, settings_refusal, patch_from, patch_in, documents_in, ids_in}
use Rattle.search_bodies.specs.Json.{json_in, as_text, text_or_none, text_at, members_of}
use Rattle.search_bodies.specs.Searches.{search_of, search_by}
use Rattle.search_bodies.specs.Multi.{multi_of}
use Rattle.search_bodies.specs.FacetSearches.{facets_of}
use Rattle.request_calls.specs.Calls.{call_at, call_of, IsKey, IsPatch, IsAccepted}

-- ---- steps that may be refused

bound : {A B : Type 0} (P : A → Type 0) (Q : B → Type 0) (r : Result A Refusal) (f : A → Result B Refusal) → IfOk r P → ((x : A) → P x → IfOk (f x) Q) → IfOk (r >>= f) Q
bound P Q (Ok x) f p h = h x p
bound P Q (Err e) f p h = tt

checked : {A : Type 0} (P : A → Type 0) (o : Option Refusal) (r : Result A Refusal) → (o ≡ None → IfOk r P) → IfOk (o >> r) P
checked P None r h = h refl
checked P (Some e) r h = tt

whatever : {A : Type 0} (r : Result A Refusal) → IfOk r (λ x. Unit {0})
whatever (Ok x) = tt
whatever (Err e) = tt

kept : {R : Type 0} (b : Bool) (r : R) → cond b None (Some r) ≡ None → b ≡ true
kept true r h = refl
kept false r h = cc

first_none : (a b : Option Refusal) → first_of a b ≡ None → (a ≡ None) × (b ≡ None)
first_none None b h = (refl, h)
first_none (Some r) b h = cc

some : (n : ℕ) → nat_lt 0 n ≡ true → 0 < n
some zero h = absurd (true≢false (sym h))
some (suc n) h = omega arith

-- ---- an index that is to be made

at_member : (name : List ℕ) (P : Data → Type 0) → ((d : Data) → index_member_fault name d ≡ None → P d) → (ms : Members) → index_members_fault ms ≡ None
    → IfSome (get_member name ms) P
at_member name P right no_members h = tt
at_member name P right (member key d ms) h =
    let p = first_none (index_member_fault key d) (index_members_fault ms) h in
    go (slice_cmp nat_cmp name key) refl p.0 (at_member name P right ms p.1)
  where
    go : (o : Ordering) → slice_cmp nat_cmp name key ≡ o → index_member_fault key d ≡ None → IfSome (get_member name ms) P
        → IfSome (match_ordering o (get_member name ms) (Some d) (get_member name ms)) P
    go Less is here later = later
    go Equal is here later = right d (subst (λ v. index_member_fault v d ≡ None) (sym (exact_bytes name key is)) here)
    go Greater is here later = later

key_of : (d : Data) → is_key_or_null d ≡ true → IsKey (as_text d)
key_of null h = tt
key_of (boolean b) h = tt
key_of (number n) h = tt
key_of (string s) h = some (length s) h
key_of (array ds) h = tt
key_of (object ms) h = tt

uid_of : (o : Option (List ℕ)) → is_uid_text o ≡ true → IfSome o (λ uid. is_uid uid ≡ true)
uid_of None h = tt
uid_of (Some uid) h = h

abbrev IsNew : List ℕ × Option (List ℕ) → Type 0
IsNew index = (is_uid index.0 ≡ true) × IsKey index.1

new_members : (ms : Members) → IfOk (index_from_members ms) IsNew
new_members ms =
    checked IsNew (index_members_fault ms) _ (λ right.
    both (text_at (codes "uid") ms) (uid right (get_member (codes "uid") ms) (at_member (codes "uid") (λ d. is_uid_text (as_text d) ≡ true) (λ d h. kept _ _ h) ms right))
    (key right (get_member (codes "primaryKey") ms) (at_member (codes "primaryKey") (λ d. is_key_or_null d ≡ true) (λ d h. kept _ _ h) ms right)))
  where
    uid : index_members_fault ms ≡ None → (o : Option Data) → IfSome o (λ d. is_uid_text (as_text d) ≡ true) → IfSome (text_or_none o) (λ uid. is_uid uid ≡ true)
    uid right None is = tt
    uid right (Some d) is = uid_of (as_text d) is

    key : index_members_fault ms ≡ None → (o : Option Data) → IfSome o (λ d. is_key_or_null d ≡ true) → IsKey (text_or_none o)
    key right None is = tt
    key right (Some d) is = key_of d is

    both : (o : Option (List ℕ)) → IfSome o (λ uid. is_uid uid ≡ true) → IsKey (text_at (codes "primaryKey") ms)
        → IfOk (or_refuse MissingUid o >>= λ uid. Ok (uid, text_at (codes "primaryKey") ms)) IsNew
    both None u k = tt
    both (Some uid) u k = (u, k)

new_index : (body : List ℕ) → IfOk (index_in body) IsNew
new_index body =
    bound (λ _. Unit {0}) IsNew (json_in body) _ (whatever (json_in body)) (λ d u. bound (λ _. Unit {0}) IsNew (members_of d) _ (whatever (members_of d)) (λ ms v. new_members ms))

-- ---- a patch

patch_shallow : (body : List ℕ) → IfOk (json_in body) (λ d. depth d ≤ max_depth)
patch_shallow body = go (is_utf8 body) (read body) refl
  where
    go : (w : Bool) (o : Option Data) → read body ≡ o → IfOk (or_refuse NotJson (cond w o None)) (λ d. depth d ≤ max_depth)
    go true None is = tt
    go true (Some d) is = depth-read body d is
    go false o is = tt

patch_right : (d : Data) → depth d ≤ max_depth → IfOk (patch_from d) IsPatch
patch_right d shallow = go (patch_fault d) refl
  where
    go : (o : Option SettingsRefusal) → patch_fault d ≡ o → IfOk (option_map settings_refusal o >> Ok d) IsPatch
    go None is = record { accepted = is; whole = patch_whole d is; shallow = shallow }
    go (Some f) is = tt

patch_accepted : (body : List ℕ) → IfOk (patch_in body) IsPatch
patch_accepted body = bound (λ d. depth d ≤ max_depth) IsPatch (json_in body) patch_from (patch_shallow body) patch_right

-- ---- a call

abbrev IsAcceptedCall : CallData → Type 0
IsAcceptedCall (write change) = IsAccepted change
IsAcceptedCall (reads call) = Unit {0}

valid_uid : (uid : List ℕ) → 0 < length uid → uid_fault uid ≡ None → is_uid uid ≡ true
valid_uid [] named right = absurd (omega (arith, named))
valid_uid (b ∷ bytes) named right = kept _ _ right

-- a route that names an index names no task
of_index : (route : Route) (uid : List ℕ) → names_index route ≡ true → named_fault route uid ≡ None → uid_fault uid ≡ None
of_index Health uid n right = right
of_index CreateIndex uid n right = right
of_index ListIndexes uid n right = right
of_index ShowIndex uid n right = right
of_index DropIndex uid n right = right
of_index AddDocuments uid n right = right
of_index UpdateDocuments uid n right = right
of_index ListDocuments uid n right = right
of_index ClearDocuments uid n right = right
of_index ShowDocument uid n right = right
of_index RemoveDocument uid n right = right
of_index RemoveDocuments uid n right = right
of_index ShowSettings uid n right = right
of_index PatchSettings uid n right = right
of_index ResetSettings uid n right = right
of_index Search uid n right = right
of_index SearchByQuery uid n right = right
of_index MultiSearch uid n right = right
of_index FacetSearch uid n right = right
of_index ShowTask uid n right = absurd (true≢false (sym n))

accepted_at : (route : Route) (uid id : List ℕ) (query : List Pair) (body : List ℕ) → (names_index route ≡ true → is_uid uid ≡ true) → first_unknown route query ≡ None
    → IfOk (call_at route uid id query body) IsAcceptedCall
accepted_at Health uid id query body u q = tt
accepted_at CreateIndex uid id query body u q = bound IsNew IsAcceptedCall (index_in body) _ (new_index body) (λ index is. record { uid = is.0; kind = is.1 })
accepted_at ListIndexes uid id query body u q = tt
accepted_at ShowIndex uid id query body u q = tt
accepted_at DropIndex uid id query body u q = record { uid = u refl; kind = tt }
accepted_at AddDocuments uid id query body u q =
    bound (λ _. Unit {0}) IsAcceptedCall (documents_in body) _ (whatever (documents_in body)) (λ documents is. record { uid = u refl; kind = given_key AddDocuments refl refl query q })
accepted_at UpdateDocuments uid id query body u q =
    bound (λ _. Unit {0}) IsAcceptedCall (documents_in body) _ (whatever (documents_in body)) (λ documents is. record { uid = u refl; kind = given_key UpdateDocuments refl refl query q })
accepted_at ListDocuments uid id query body u q = tt
accepted_at ClearDocuments uid id query body u q = record { uid = u refl; kind = tt }
accepted_at ShowDocument uid id query body u q = tt
accepted_at RemoveDocument uid id query body u q = record { uid = u refl; kind = tt }
accepted_at RemoveDocuments uid id query body u q = bound (λ _. Unit {0}) IsAcceptedCall (ids_in body) _ (whatever (ids_in body)) (λ ids is. record { uid = u refl; kind = tt })
accepted_at ShowSettings uid id query body u q = tt
accepted_at PatchSettings uid id query body u q = bound IsPatch IsAcceptedCall (patch_in body) _ (patch_accepted body) (λ members is. record { uid = u refl; kind = is })
accepted_at ResetSettings uid id query body u q = record { uid = u refl; kind = tt }
accepted_at Search uid id query body u q = bound (λ _. Unit {0}) IsAcceptedCall (search_of body) _ (whatever (search_of body)) (λ call is. tt)
accepted_at SearchByQuery uid id query body u q = bound (λ _. Unit {0}) IsAcceptedCall (search_by query) _ (whatever (search_by query)) (λ call is. tt)
accepted_at MultiSearch uid id query body u q = bound (λ _. Unit {0}) IsAcceptedCall (multi_of body) _ (whatever (multi_of body)) (λ calls is. tt)
accepted_at FacetSearch uid id query body u q = bound (λ _. Unit {0}) IsAcceptedCall (facets_of body) _ (whatever (facets_of body)) (λ call is. tt)
accepted_at ShowTask uid id query body u q =
    bound (λ _. Unit {0}) IsAcceptedCall (or_refuse InvalidTaskUid (task_number uid)) _ (whatever (or_refuse InvalidTaskUid (task_number uid))) (λ number is. tt)

known : (route : Route) (query : List ℕ) → IfOk (query_for route query) (λ pairs. first_unknown route pairs ≡ None)
known route query = checked (λ pairs. first_unknown route pairs ≡ None) (first_unknown route (last_pairs (pairs_of query))) _ (λ right. right)

-- the uid and the pairs of a query string that are not refused
abbrev IsRight : Found → List Pair → Type 0
IsRight found pairs = (named_fault found.route found.uid ≡ None) × (first_unknown found.route pairs ≡ None)

accepted : (q : Request) → IfOk (call_of q) IsAcceptedCall
accepted q =
    bound IsNamed IsAcceptedCall (route_of q.method (parts_of (path_of q.target))) _ (found_named q.method (parts_of (path_of q.target))) (λ found named.
    bound (IsRight found) IsAcceptedCall (named_fault found.route found.uid >> query_for found.route (query_of q.target)) _ (right found) (λ query is.
    accepted_at found.route found.uid found.id query q.body (λ n. valid_uid found.uid (named n) (of_index found.route found.uid n is.0)) is.1))
  where
    with : (found : Found) (r : Result (List Pair) Refusal) → named_fault found.route found.uid ≡ None → IfOk r (λ pairs. first_unknown found.route pairs ≡ None)
        → IfOk r (IsRight found)
    with found (Ok pairs) u k = (u, k)
    with found (Err e) u k = tt

    right : (found : Found) → IfOk (named_fault found.route found.uid >> query_for found.route (query_of q.target)) (IsRight found)
    right found = checked (IsRight found) (named_fault found.route found.uid) _ (λ u. with found (query_for found.route (query_of q.target)) u (known found.route (query_of q.target)))

pub accepted_call : (q : Request) (call : CallData) → call_of q ≡ Ok call → IfOk {E = Refusal} (Ok call) IsAcceptedCall
accepted_call q call is = subst (λ r. IfOk r IsAcceptedCall) is (accepted q)
