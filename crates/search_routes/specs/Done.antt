-- What the code does, beside the steps of the machine.
use Rattle.std.specs.Prelude.{◌≡◌, ◌<◌, ◌≤◌, ℕ, Bool, List, [], Result, Ok, Err}
use Rattle.bucket_sort.specs.declared.log.Opening.{Opening}
use Rattle.document_changes.specs.Changes.{ChangeData, change_view}
use Rattle.change_payloads.specs.Spelling.{kind_byte}
use Rattle.http_wire.specs.Reply.{Answer}
use Rattle.http_wire.specs.Stream.{Request}
use Rattle.http_wire.specs.Sent.{IsSentAs}
use Rattle.http_wire.specs.declared.reply.Reply.{Reply}
use Rattle.http_wire.specs.declared.reply.Reply.TheVariants.{Memory}
use Rattle.bucket_sort.specs.Opens.{LogState, Opens}
use Rattle.request_refusals.specs.declared.refusal.Refusal.{Refusal}
use Rattle.request_refusals.specs.declared.refusal.Refusal.TheVariants.{ChangesSpent}
use Rattle.request_replies.specs.Replies as replies
use Rattle.named_indexes.specs.Payloads.{Accepts}
use Rattle.search_base.specs.declared.fault.Fault.{Fault}
use Rattle.search_base.specs.declared.fault.Fault.TheVariants as fault
use Rattle.request_calls.specs.declared.call.Call.{Call}
use Rattle.request_calls.specs.declared.call.Call.TheVariants as call
use Rattle.request_calls.specs.Asked.{write, read, read_view}
use Rattle.search_base.specs.Gives.{Fails}
use Rattle.request_calls.specs.Refusals.{refused}
use Rattle.search_routes.specs.State.{State, most_changes}
use Rattle.search_routes.specs.Machine.{Step, numbered, performed}
use Rattle.search_routes.specs.declared.tasks.PreparedTask.{PreparedTask}
use Rattle.search_routes.specs.Needs.{call_need}
use Rattle.search_routes.specs.Openings.{read_opened, opened_by, read_most}
use Rattle.search_routes.specs.Chosen.{or_memory, answer_in, state_in, answer_of, state_after}

-- the state of a machine, and of the log to which it tells what it opens
pub record Noted : Type 0 where
  pub state : State
  pub log : LogState

abbrev pub noted : State → LogState → Noted
noted state log = record { state = state; log = log }

-- the step was made and opened these buckets, or there was no memory
abbrev pub Makes : Step → List Opening → Noted → Reply → Noted → Type 0
Makes t all old reply new = (starved : Bool) × IsSentAs reply (answer_in t starved)
    × (new.state ≡ state_in old.state t starved) × Opens starved all old.log new.log

-- The request had the reply of its step, the state follows, and the buckets that it opens were told; or there was no
-- memory.
abbrev pub Answered : Noted → Request → Reply → Noted → Type 0
Answered old q reply new = (starved : Bool) × IsSentAs reply (answer_of old.state q starved)
    × (new.state ≡ state_after old.state q starved) × Opens starved (opened_by old.state q) old.log new.log

-- what a step leaves that opens no bucket: it was made, or there was no memory
abbrev pub Leaves : State → Step → Reply → State → Type 0
Leaves s t reply new = (starved : Bool) × IsSentAs reply (answer_in t starved) × (new ≡ state_in s t starved)

-- the call was performed, or there was no memory; a refused one has its reply
abbrev pub Performs : Noted → Call → Reply → Noted → Type 0
Performs old (call.Refused given) reply new = (reply ≡ given) × (new ≡ old)
Performs old (call.Write change) reply new =
    Makes (performed old.state (write (change_view change))) [] old reply new
Performs old (call.Read c) reply new =
    Makes (performed old.state (read (read_view c))) (read_opened old.state.indexes (read_view c)) old reply new

-- how many buckets a call opens at most; a refused one opens none
abbrev pub held_most : State → Call → ℕ
held_most s (call.Refused given) = 0
held_most s (call.Write change) = 0
held_most s (call.Read c) = read_most s.indexes (read_view c)

-- how many stored documents a call needs to read; a refused one needs none
abbrev pub held_need : State → Call → ℕ
held_need s (call.Refused given) = 0
held_need s (call.Write change) = call_need s (write (change_view change))
held_need s (call.Read c) = call_need s (read (read_view c))

-- a task of this number that may wait, and the reply by which its change is accepted
pub record IsPrepared (number : ℕ) (c : ChangeData) (prepared : PreparedTask) : Type 0 where
  pub room : number < most_changes
  pub task : prepared.task ≡ numbered number c
  pub accepts : Accepts prepared.task.uid prepared.task.kind prepared.task.change
  pub reply : IsSentAs prepared.reply (replies.accepted c.uid (kind_byte c.kind) number)

-- ---- inside

-- the task of a change under this number, or why there is none: it is past the limit, unless memory was wanting
abbrev pub Prepares : ℕ → ChangeData → Result PreparedTask (Fault Refusal) → Type 0
Prepares number c (Ok prepared) = IsPrepared number c prepared
Prepares number c (Err fault.NoMemory) = Unit {0}
Prepares number c (Err (fault.Refused r)) = (r ≡ ChangesSpent) × (most_changes ≤ number)

-- an answer that is sent, or why there is none
abbrev pub Sends : Result Answer Refusal → Result Reply (Fault Refusal) → Type 0
Sends defined (Ok reply) = (a : Answer) × (defined ≡ Ok a) × IsSentAs reply a
Sends defined (Err f) = Fails f defined

-- the reply to what was done, or to why it was not
abbrev pub Answers : Result Reply (Fault Refusal) → Reply → Type 0
Answers (Ok given) reply = reply ≡ given
Answers (Err fault.NoMemory) reply = reply ≡ Memory
Answers (Err (fault.Refused r)) reply = (starved : Bool) × IsSentAs reply (or_memory (refused r) starved)
