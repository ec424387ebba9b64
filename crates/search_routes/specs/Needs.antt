-- How many stored documents a request needs to read, and the batch behind its reply.
use Rattle.std.specs.Prelude.{ℕ, List, length, sum_by, take_while, nat_le, ◌==◌, Bool, Option, Some, None, Result, Ok, Err, is_ok, if◌then◌else◌}
use Rattle.serde_json.specs.Data.{Data}
use Rattle.http_wire.specs.Stream.{Request}
use Rattle.index_changes.specs.Index.{Index, documents as documents_in, document_under}
use Rattle.index_core.specs.Fetches.{documents_needed}
use Rattle.request_refusals.specs.declared.refusal.Refusal.{Refusal}
use Rattle.search_bodies.specs.MultiData.{MultiData}
use Rattle.request_calls.specs.Asked.{ReadData, health, task, indexes, index, documents, document, settings, search, multi, facets, CallData, write, read}
use Rattle.request_calls.specs.Calls.{call_of}
use Rattle.search_call.specs.SearchView.{SearchView}
use Rattle.queued_changes.specs.State.{accepted}
use Rattle.queued_changes.specs.Needs.{batch_need as need_of_batch, room_need as need_of_room}
use Rattle.named_indexes.specs.Indexes.{Indexes, index_at}
use Rattle.named_indexes.specs.Needs.{need}
use Rattle.search_routes.specs.State.{State, most_changes}
use Rattle.search_routes.specs.Machine.{step, searched, slice}

-- ---- batches

-- of the oldest batch: of one that stores documents or takes them out, those that its tasks name and that are there,
-- each once; of new settings that may use some path otherwise, all of the index; of any other, none
abbrev pub batch_need : State → ℕ
batch_need s = need_of_batch need s

-- of the batch that makes room for one task more
abbrev pub room_need : State → ℕ
room_need s = need_of_room need s

-- a change past the limit is refused before room is made
abbrev pub change_need : State → ℕ
change_need s = if nat_le most_changes (accepted s) then 0 else room_need s

-- ---- reads

-- of an index that is there
abbrev pub there_need : Option Index → (Index → ℕ) → ℕ
there_need None need = 0
there_need (Some i) need = need i

abbrev pub one_if_some : Option Data → ℕ
one_if_some None = 0
one_if_some (Some d) = 1

-- the hits of a search, and where no two have a value in common those that are looked at for it; one that is refused
-- needs none
abbrev pub search_need : Indexes → List ℕ → SearchView → ℕ
search_need es uid call = there_need (index_at uid es) (λ i. documents_needed i call)

-- of several searches those before the first that is refused
abbrev pub answered : Indexes → List MultiData → List MultiData
answered es calls = take_while (λ one. is_ok (searched es one.uid one.call)) calls

-- the documents in the reply; of several searches the sum, where the first that is refused ends them
abbrev pub read_need : Indexes → ReadData → ℕ
read_need es health = 0
read_need es (task number) = 0
read_need es (indexes offset limit) = 0
read_need es (index uid) = 0
read_need es (documents uid offset limit fields) =
    there_need (index_at uid es) (λ i. length (slice offset limit (documents_in i)))
read_need es (document uid id fields) = there_need (index_at uid es) (λ i. one_if_some (document_under id i.store.rows))
read_need es (settings uid) = 0
read_need es (search uid call) = search_need es uid call
read_need es (multi calls) = sum_by (λ one. search_need es one.uid one.call) (answered es calls)
read_need es (facets uid call) = 0

-- ---- calls and requests

abbrev pub call_need : State → CallData → ℕ
call_need s (write change) = change_need s
call_need s (read call) = read_need s.indexes call

-- a request that is refused by what it says alone needs none
abbrev pub asked_need : State → Result CallData Refusal → ℕ
asked_need s (Ok call) = call_need s call
asked_need s (Err r) = 0

unfoldable pub needed_fetches : State → Request → ℕ
needed_fetches s q = asked_need s (call_of q)

-- of the batch that runs behind the reply, which is none behind a reply 202 and behind the one for want of memory
abbrev pub follow_need : State → Request → Bool → ℕ
follow_need s q starved =
    if starved then 0 else if (step s q).answer.status == 202 then 0 else batch_need (step s q).state
