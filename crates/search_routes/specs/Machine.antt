-- The plain machine: what it answers to a request, and what it holds after that.
use Rattle.std.specs.Prelude.{ℕ, List, [], ◌∷◌, length, map, take, drop, nat_le, Result, Ok, Err}
use Rattle.serde_json.specs.Data.{Data}
use Rattle.index_settings.specs.View.{SettingsView}
use Rattle.document_changes.specs.Changes.{ChangeData}
use Rattle.change_payloads.specs.Spelling.{kind_byte}
use Rattle.http_wire.specs.Stream.{Request}
use Rattle.http_wire.specs.Reply.{Answer}
use Rattle.index_changes.specs.Index.{Index, documents as documents_in, document_under}
use Rattle.search_result.specs.View.{Found}
use Rattle.index_core.specs.Found.{found}
use Rattle.index_core.specs.Terms.{terms_in}
use Rattle.index_core.specs.FacetHits.{facet_found}
use Rattle.search_settings.specs.declared.refusal.SearchRefusal.{SearchRefusal}
use Rattle.search_settings.specs.declared.refusal.SearchRefusal.TheVariants as asked
use Rattle.request_refusals.specs.declared.refusal.Refusal.{Refusal}
use Rattle.request_refusals.specs.declared.refusal.Refusal.TheVariants.{NoTask, NoIndex, NoDocument, ChangesSpent, NoSortRule, NotSortable, NotFilterable, NotFacet, InvalidFacetName}
use Rattle.search_base.specs.TermView.{TermView}
use Rattle.search_base.specs.Trying.{◌>>=◌, ◌>>◌, refuse_if, or_refuse, refused_as}
use Rattle.request_calls.specs.Refusals.{refused}
use Rattle.search_bodies.specs.MultiData.{MultiData}
use Rattle.request_calls.specs.Asked.{ReadData, health, task, indexes, index, documents, document, settings, search, multi, facets, CallData, write, read}
use Rattle.request_calls.specs.Calls.{call_of}
use Rattle.search_call.specs.SearchView.{SearchView}
use Rattle.request_replies.specs.Replies as replies
use Rattle.task_queue.specs.declared.task.Task.{Task}
use Rattle.task_queue.specs.Queue.{found as found_task}
use Rattle.queued_changes.specs.State.{accepted, tasks_of}
use Rattle.queued_changes.specs.Machine.{enqueued}
use Rattle.named_indexes.specs.Indexes.{Indexes, index_at}
use Rattle.named_indexes.specs.Changes.{changed}
use Rattle.search_routes.specs.State.{State, most_changes}

-- the index of this uid, or its refusal
abbrev pub index_named : List ℕ → Indexes → Result Index Refusal
index_named uid es = or_refuse (NoIndex uid) (index_at uid es)

-- ---- a step

-- what is answered, and what the machine holds after that
pub record Step : Type 0 where
  pub answer : Answer
  pub state : State

-- an answer that changes nothing
abbrev pub told : State → Answer → Step
told s a = record { answer = a; state = s }

-- a refusal changes nothing
abbrev pub unless_refused : State → Result Step Refusal → Step
unless_refused s (Ok t) = t
unless_refused s (Err r) = told s (refused r)

-- ---- changes

-- the task of a change, under this number
abbrev pub numbered : ℕ → ChangeData → Task ChangeData
numbered number change =
    record { number = number; uid = change.uid; kind = kind_byte change.kind; change = change }

-- A change is accepted: its task waits under the number of those accepted before. Where 16 wait already the oldest
-- batch runs first. What becomes of the task is told later, by its number.
abbrev pub accepted_write : State → ChangeData → Result Step Refusal
accepted_write s change =
    refuse_if (nat_le most_changes (accepted s)) ChangesSpent
    >> Ok (record {
      answer = replies.accepted change.uid (kind_byte change.kind) (accepted s);
      state = enqueued changed change.uid (kind_byte change.kind) change s;
    })

-- ---- reads

-- of some things those from a place on, at most so many
abbrev pub slice : {A : Type 0} → ℕ → ℕ → List A → List A
slice offset limit xs = take limit (drop offset xs)

abbrev pub index_rows : Indexes → List Data
index_rows es = map (λ e. replies.index_data e.0 e.1.key) es

-- a hit shows the members that both the settings and the search name, with these terms marked in their texts
abbrev pub found_shown : SearchView → SettingsView → List TermView → Found → Data
found_shown call s terms f = replies.found_data s.displayed_attributes call terms f

-- why a search is refused by its index
abbrev pub search_refusal : SearchRefusal → Refusal
search_refusal asked.NoSortRule = NoSortRule
search_refusal (asked.NotSortable attribute) = NotSortable attribute
search_refusal (asked.NotFilterable attribute) = NotFilterable attribute
search_refusal (asked.NotFacet attribute) = NotFacet attribute

-- why a search of the values of an attribute is refused by its index
abbrev pub facet_refusal : SearchRefusal → Refusal
facet_refusal asked.NoSortRule = NoSortRule
facet_refusal (asked.NotSortable attribute) = NotSortable attribute
facet_refusal (asked.NotFilterable attribute) = NotFilterable attribute
facet_refusal (asked.NotFacet attribute) = InvalidFacetName

-- what a search of the index of this uid shows, alone or as one of several
abbrev pub searched : Indexes → List ℕ → SearchView → Result Data Refusal
searched es uid call = do
  i ← index_named uid es
  f ← refused_as search_refusal (found i call)
  Ok (found_shown call i.settings (terms_in i call) f)

-- the same, with the uid of the index
abbrev pub result_of : Indexes → MultiData → Result Data Refusal
result_of es one = do
  d ← searched es one.uid one.call
  Ok (replies.with_uid one.uid d)

-- what several searches show, in their order; the first that is refused refuses all
abbrev pub results_of : Indexes → List MultiData → Result (List Data) Refusal
results_of es [] = Ok []
results_of es (one ∷ others) = do
  d ← result_of es one
  ds ← results_of es others
  Ok (d ∷ ds)

-- one equation a route
abbrev pub answer_to : State → ReadData → Result Answer Refusal
answer_to s health = Ok replies.health
answer_to s (task number) = do
  t ← or_refuse (NoTask number) (found_task number (tasks_of s))
  Ok (replies.task t)
answer_to s (indexes offset limit) =
    Ok (replies.listing offset limit (slice offset limit (index_rows s.indexes)) (length s.indexes))
answer_to s (index uid) = do
  i ← index_named uid s.indexes
  Ok (replies.one_index uid i.key)
answer_to s (documents uid offset limit fields) = do
  i ← index_named uid s.indexes
  Ok (replies.documents_listing offset limit fields (slice offset limit (documents_in i)) (length (documents_in i)))
answer_to s (document uid id fields) = do
  i ← index_named uid s.indexes
  d ← or_refuse (NoDocument id) (document_under id i.store.rows)
  Ok (replies.one_document fields d)
answer_to s (settings uid) = do
  i ← index_named uid s.indexes
  Ok (replies.settings i.settings)
answer_to s (search uid call) = do
  d ← searched s.indexes uid call
  Ok (replies.answer 200 d)
answer_to s (multi calls) = do
  ds ← results_of s.indexes calls
  Ok (replies.results ds)
answer_to s (facets uid call) = do
  i ← index_named uid s.indexes
  rows ← refused_as facet_refusal (facet_found i call)
  Ok (replies.facet_hits call.query rows)

abbrev pub outcome : State → CallData → Result Step Refusal
outcome s (write change) = accepted_write s change
outcome s (read call) = do
  a ← answer_to s call
  Ok (told s a)

-- ---- a request

abbrev pub performed : State → CallData → Step
performed s call = unless_refused s (outcome s call)

unfoldable pub step : State → Request → Step
step s q = unless_refused s (call_of q >>= outcome s)
