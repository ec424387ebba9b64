-- The replies to calls that are not refused.
use Rattle.std.specs.Prelude.{ℕ, List, [], ◌∷◌, ◌++◌, map, Bool, true, codes, decimal, Option, Some, None, ◌==◌, ◌||◌, if◌then◌else◌}
use Rattle.std.specs.Int.{div_ceil}
use Rattle.serde_json.specs.Data.{Data, null, number, unsigned, string, array, object, Members, member, no_members, put}
use Rattle.serde_json.specs.View.{items_of}
use Rattle.serde_json.specs.Written.{compact_text, comma_if}
use Rattle.http_wire.specs.Reply.{Answer}
use Rattle.index_settings.specs.View.{SettingsView}
use Rattle.index_settings.specs.Json.{settings_data}
use Rattle.search_base.specs.TermView.{TermView}
use Rattle.search_call.specs.SearchView.{SearchView}
use Rattle.search_call.specs.declared.Window.{Window}
use Rattle.search_call.specs.declared.Window.TheVariants.{Slice, Page}
use Rattle.doc_values.specs.Walk.{members_in}
use Rattle.facet_counts.specs.declared.rows.CountRow.{CountRow}
use Rattle.facet_counts.specs.FacetView.{FacetView}
use Rattle.search_result.specs.View.{Found}
use Rattle.task_queue.specs.declared.task.TaskState.{TaskState}
use Rattle.task_queue.specs.declared.task.TaskState.TheVariants as state
use Rattle.task_queue.specs.Queue.{Shown as TaskShown}
use Rattle.request_refusals.specs.Tasks.{code_of_row}
use Rattle.search_replies.specs.Shown.{shown, all_shown, hit_shown}
use Rattle.request_replies.specs.Facets.{facet_members}

abbrev pub answer : ℕ → Data → Answer
answer status d = record { status = status; body = compact_text d }

abbrev pub count : ℕ → Data
count n = number (unsigned n)

-- ---- tasks

-- what a change is called, by the byte of its kind, as a recorded change begins with it
abbrev pub kind_name : ℕ → List ℕ
kind_name kind =
    if kind == 1 then codes "indexCreation"
    else if kind == 2 then codes "indexDeletion"
    else if kind == 3 || kind == 4 then codes "documentAdditionOrUpdate"
    else if kind == 5 || kind == 6 then codes "documentDeletion"
    else if kind == 7 || kind == 8 then codes "settingsUpdate"
    else []

-- a change of the index of this uid that was accepted as the task of this number
abbrev pub accepted_data : List ℕ → ℕ → ℕ → Data
accepted_data uid kind n =
    object (member (codes "indexUid") (string uid)
    (member (codes "status") (string (codes "enqueued"))
    (member (codes "taskUid") (count n)
    (member (codes "type") (string (kind_name kind)) no_members))))

abbrev pub accepted : List ℕ → ℕ → ℕ → Answer
accepted uid kind n = answer 202 (accepted_data uid kind n)

abbrev pub status_name : TaskState → List ℕ
status_name state.Enqueued = codes "enqueued"
status_name state.Succeeded = codes "succeeded"
status_name (state.Failed row) = codes "failed"

abbrev pub failure_data : List ℕ → List ℕ → Data
failure_data code message =
    object (member (codes "code") (string code)
    (member (codes "message") (string message)
    (member (codes "type") (string (codes "invalid_request")) no_members)))

abbrev pub failure_message : ℕ → List ℕ
failure_message n = codes "Task " ++ decimal n ++ codes " was refused."

-- why the task of this number failed, by the number of its refusal; null of a task that did not fail
abbrev pub error_data : ℕ → TaskState → Data
error_data n state.Enqueued = null
error_data n state.Succeeded = null
error_data n (state.Failed row) = failure_data (code_of_row row) (failure_message n)

abbrev pub task_data : TaskShown → Data
task_data t =
    object (member (codes "error") (error_data t.number t.state)
    (member (codes "indexUid") (string t.uid)
    (member (codes "status") (string (status_name t.state))
    (member (codes "type") (string (kind_name t.kind))
    (member (codes "uid") (count t.number) no_members)))))

-- what becomes of a task
abbrev pub task : TaskShown → Answer
task t = answer 200 (task_data t)

-- ---- the server and its indexes

abbrev pub health_data : Data
health_data = object (member (codes "status") (string (codes "available")) no_members)

abbrev pub health : Answer
health = answer 200 health_data

abbrev pub text_or_null : Option (List ℕ) → Data
text_or_null None = null
text_or_null (Some text) = string text

-- an index by its uid, with its primary key
abbrev pub index_data : List ℕ → Option (List ℕ) → Data
index_data uid key =
    object (member (codes "primaryKey") (text_or_null key) (member (codes "uid") (string uid) no_members))

abbrev pub one_index : List ℕ → Option (List ℕ) → Answer
one_index uid key = answer 200 (index_data uid key)

-- the settings of an index, all ten members
abbrev pub settings : SettingsView → Answer
settings s = answer 200 (settings_data s)

-- ---- lists

-- some of so many things, by the offset and the limit that were asked
abbrev pub list_data : ℕ → ℕ → Data → ℕ → Data
list_data offset limit results total =
    object (member (codes "limit") (count limit)
    (member (codes "offset") (count offset)
    (member (codes "results") results
    (member (codes "total") (count total) no_members))))

abbrev pub listing_data : ℕ → ℕ → List Data → ℕ → Data
listing_data offset limit results total = list_data offset limit (array (items_of results)) total

abbrev pub listing : ℕ → ℕ → List Data → ℕ → Answer
listing offset limit results total = answer 200 (listing_data offset limit results total)

-- ---- documents

-- one document, by the members that were asked
abbrev pub one_document : List (List ℕ) → Data → Answer
one_document fields d = answer 200 (shown fields d)

abbrev pub documents_listing : ℕ → ℕ → List (List ℕ) → List Data → ℕ → Answer
documents_listing offset limit fields documents total = listing offset limit (all_shown fields documents) total

-- ---- searches

-- so many hits by so many a page
abbrev pub total_pages : ℕ → ℕ → ℕ
total_pages total per = if per == 0 then 0 else div_ceil total per

-- the hits of a search for this text by a slice or a page of them, of so many in all, with the counts that it asks for
abbrev pub hits_data : List ℕ → Window → ℕ → Option (List FacetView) → List Data → Data
hits_data q (Slice offset limit) total facets hits =
    object (member (codes "estimatedTotalHits") (count total)
    (facet_members facets
    (member (codes "hits") (array (items_of hits))
    (member (codes "limit") (count limit)
    (member (codes "offset") (count offset)
    (member (codes "query") (string q) no_members))))))
hits_data q (Page page per) total facets hits =
    object (facet_members facets
    (member (codes "hits") (array (items_of hits))
    (member (codes "hitsPerPage") (count per)
    (member (codes "page") (count page)
    (member (codes "query") (string q)
    (member (codes "totalHits") (count total)
    (member (codes "totalPages") (count (total_pages total per)) no_members)))))))

-- A hit shows the members that both the displayed names and the search name, and what the search adds to it. By these
-- terms are the matched words of its texts found.
abbrev pub found_data : List (List ℕ) → SearchView → List TermView → Found → Data
found_data displayed call terms found =
    hits_data call.q call.window found.total found.facets (map (hit_shown displayed call terms) found.hits)

abbrev pub hits : List (List ℕ) → SearchView → List TermView → Found → Answer
hits displayed call terms found = answer 200 (found_data displayed call terms found)

-- ---- several searches

-- what a search finds, with the uid of its index among the other members in byte order
abbrev pub with_uid : List ℕ → Data → Data
with_uid uid d = object (put (codes "indexUid") (string uid) (members_in d))

abbrev pub results_data : List Data → Data
results_data ds = object (member (codes "results") (array (items_of ds)) no_members)

-- what each search finds, in the order of the searches
abbrev pub results : List Data → Answer
results ds = answer 200 (results_data ds)

-- ---- a search of the values of an attribute

-- a value as it is spelled, and how many documents have it
abbrev pub facet_hit : CountRow → Data
facet_hit row = object (member (codes "count") (count row.count) (member (codes "value") (string row.shown) no_members))

abbrev pub facet_hits_data : Option (List ℕ) → List CountRow → Data
facet_hits_data query rows =
    object (member (codes "facetHits") (array (items_of (map facet_hit rows)))
    (member (codes "facetQuery") (text_or_null query) no_members))

-- the values that are found by this text, if by one
abbrev pub facet_hits : Option (List ℕ) → List CountRow → Answer
facet_hits query rows = answer 200 (facet_hits_data query rows)

-- ---- as the code does it

-- what stands before the counts and the hits
abbrev pub with_estimate : Window → ℕ → Members → Members
with_estimate (Slice offset limit) total ms = member (codes "estimatedTotalHits") (count total) ms
with_estimate (Page page per) total ms = ms

-- the uid of the index before other members, where it is shown
abbrev pub with_index : Option (List ℕ) → Members → Members
with_index None ms = ms
with_index (Some uid) ms = member (codes "indexUid") (string uid) ms

-- what stands behind the hits
abbrev pub window_members : Option (List ℕ) → List ℕ → Window → ℕ → Members
window_members uid q (Slice offset limit) total =
    with_index uid
    (member (codes "limit") (count limit)
    (member (codes "offset") (count offset)
    (member (codes "query") (string q) no_members)))
window_members uid q (Page page per) total =
    member (codes "hitsPerPage") (count per)
    (with_index uid
    (member (codes "page") (count page)
    (member (codes "query") (string q)
    (member (codes "totalHits") (count total)
    (member (codes "totalPages") (count (total_pages total per)) no_members)))))

-- texts that stand in a list, behind others or not, and its end
abbrev pub joined : Bool → List (List ℕ) → List ℕ
joined later [] = 93 ∷ []
joined later (text ∷ texts) = comma_if later ++ (text ++ joined true texts)

-- what a search finds, with the uid of its index, where it is shown
abbrev pub shown_with : Option (List ℕ) → Data → Data
shown_with None d = d
shown_with (Some uid) d = with_uid uid d
