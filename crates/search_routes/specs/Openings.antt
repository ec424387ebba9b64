-- The buckets that a call opens on its way to its hits.
use Rattle.std.specs.Prelude.{ℕ, List, [], flat_map, sum_by, Option, Some, None, Result, Ok, Err}
use Rattle.bucket_sort.specs.declared.log.Opening.{Opening}
use Rattle.http_wire.specs.Stream.{Request}
use Rattle.index_changes.specs.Index.{Index}
use Rattle.index_core.specs.Opened.{opened, most_opened}
use Rattle.request_refusals.specs.declared.refusal.Refusal.{Refusal}
use Rattle.request_calls.specs.Asked.{ReadData, health, task, indexes, index, documents, document, settings, search, multi, facets, CallData, write, read}
use Rattle.request_calls.specs.Calls.{call_of}
use Rattle.search_call.specs.SearchView.{SearchView}
use Rattle.named_indexes.specs.Indexes.{Indexes, index_at}
use Rattle.search_routes.specs.State.{State}
use Rattle.search_routes.specs.Needs.{there_need, answered}

-- of an index that is there
abbrev pub there_opened : Option Index → (Index → List Opening) → List Opening
there_opened None all = []
there_opened (Some i) all = all i

abbrev pub search_opened : Indexes → List ℕ → SearchView → List Opening
search_opened es uid call = there_opened (index_at uid es) (λ i. opened i call)

-- Searches alone open buckets; several do so one after the other, and the first that is refused ends them.
abbrev pub read_opened : Indexes → ReadData → List Opening
read_opened es health = []
read_opened es (task number) = []
read_opened es (indexes offset limit) = []
read_opened es (index uid) = []
read_opened es (documents uid offset limit fields) = []
read_opened es (document uid id fields) = []
read_opened es (settings uid) = []
read_opened es (search uid call) = search_opened es uid call
read_opened es (multi calls) = flat_map (λ one. search_opened es one.uid one.call) (answered es calls)
read_opened es (facets uid call) = []

abbrev pub call_opened : State → CallData → List Opening
call_opened s (write change) = []
call_opened s (read call) = read_opened s.indexes call

-- a request that is refused by what it says alone opens none
abbrev pub asked_opened : State → Result CallData Refusal → List Opening
asked_opened s (Ok call) = call_opened s call
asked_opened s (Err r) = []

unfoldable pub opened_by : State → Request → List Opening
opened_by s q = asked_opened s (call_of q)

-- ---- how many they are at most

abbrev pub search_most : Indexes → List ℕ → SearchView → ℕ
search_most es uid call = there_need (index_at uid es) (λ i. most_opened i call)

abbrev pub read_most : Indexes → ReadData → ℕ
read_most es health = 0
read_most es (task number) = 0
read_most es (indexes offset limit) = 0
read_most es (index uid) = 0
read_most es (documents uid offset limit fields) = 0
read_most es (document uid id fields) = 0
read_most es (settings uid) = 0
read_most es (search uid call) = search_most es uid call
read_most es (multi calls) = sum_by (λ one. search_most es one.uid one.call) (answered es calls)
read_most es (facets uid call) = 0

abbrev pub call_most : State → CallData → ℕ
call_most s (write change) = 0
call_most s (read call) = read_most s.indexes call

abbrev pub asked_most : State → Result CallData Refusal → ℕ
asked_most s (Ok call) = call_most s call
asked_most s (Err r) = 0

unfoldable pub most_opened_by : State → Request → ℕ
most_opened_by s q = asked_most s (call_of q)
