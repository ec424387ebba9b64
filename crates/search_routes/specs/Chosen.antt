-- A step that may find no memory: then the answer is the one for that, and the state stays.
use Rattle.std.specs.Prelude.{◌==◌, Bool, true, false, List, if◌then◌else◌}
use Rattle.http_wire.specs.Stream.{Request}
use Rattle.http_wire.specs.Reply.{Answer, memory_answer}
use Rattle.search_routes.specs.State.{State}
use Rattle.queued_changes.specs.Run.{Step as Stepped, Event as EventOf, followed as followed_by, after as after_all, EndsIn as EndsBy}
use Rattle.named_indexes.specs.Indexes.{Indexes}
use Rattle.named_indexes.specs.Changes.{changed}
use Rattle.document_changes.specs.Changes.{ChangeData}
use Rattle.search_routes.specs.Machine.{Step, step}

abbrev pub or_memory : Answer → Bool → Answer
or_memory a true = memory_answer
or_memory a false = a

abbrev pub answer_in : Step → Bool → Answer
answer_in t starved = or_memory t.answer starved

abbrev pub state_in : State → Step → Bool → State
state_in s t true = s
state_in s t false = t.state

abbrev pub answer_of : State → Request → Bool → Answer
answer_of s q starved = answer_in (step s q) starved

abbrev pub state_after : State → Request → Bool → State
state_after s q starved = state_in s (step s q) starved

-- whether the oldest batch runs behind the reply
abbrev pub is_followed : State → Request → Bool → Bool
is_followed s q starved = if starved then false else if (step s q).answer.status == 202 then false else true

-- ---- a run of requests

-- the status of a step, and the state after it
abbrev pub stepped : State → Request → Stepped ChangeData Indexes
stepped s q = record { status = (step s q).answer.status; state = (step s q).state }

-- the machine as the next request finds it: behind a reply that is neither 202 nor the one for want of memory the
-- oldest batch has run
abbrev pub followed : State → Request → Bool → State
followed s q starved = followed_by changed stepped s q starved

-- a request, and whether it finds no memory
abbrev pub Event : Type 0
Event = EventOf Request

-- the machine after some requests
abbrev pub after : State → List Event → State
after s events = after_all changed stepped s events

-- The machine at the end of some requests. With the mark the batch behind the last reply has not run.
abbrev pub EndsIn : Bool → State → List Event → State → Type 0
EndsIn mark s events t = EndsBy changed stepped mark s events t
