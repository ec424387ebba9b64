-- What an answer leaves.
use Rattle.std.proofs.Common.{◌≡◌, ◌==◌, Bool, true, false, List, [], refl, sym, ◌∙◌, ap, subst, arith, append-nil, Option, Some, None, Result, Ok, Err}
use Rattle.std.specs.Prelude.{IfOk, OnErr, OnOk, if◌then◌else◌}
use Rattle.bucket_sort.specs.declared.log.Opening.{Opening}
use Rattle.bucket_sort.specs.Told.{and_then}
use Rattle.bucket_sort.specs.Opens.{LogState, Opens}
use Rattle.document_changes.specs.Changes.{ChangeData}
use Rattle.http_wire.specs.Sent.{IsSentAs}
use Rattle.http_wire.specs.Stream.{Request}
use Rattle.http_wire.specs.declared.reply.Reply.{Reply}
use Rattle.request_calls.specs.Asked.{CallData, write}
use Rattle.request_calls.specs.Calls.{call_of}
use Rattle.request_calls.specs.Refusals.{refused}
use Rattle.search_base.specs.Trying.{◌>>=◌}
use Rattle.queued_changes.specs.State.{accepted}
use Rattle.queued_changes.specs.Machine.{behind, make_room, run_out}
use Rattle.queued_changes.proofs.Runs.{room_out}
use Rattle.named_indexes.specs.Changes.{changed}
use Rattle.search_routes.specs.Chosen.{answer_in, answer_of, is_followed, state_after, state_in}
use Rattle.search_routes.specs.Done.{IsPrepared, Leaves}
use Rattle.search_routes.specs.Machine.{Step, outcome, performed, step, told, unless_refused}
use Rattle.search_routes.specs.Needs.{asked_need, needed_fetches, room_need}
use Rattle.search_routes.specs.Openings.{asked_opened, opened_by}
use Rattle.search_routes.specs.State.{State}
use Rattle.search_routes.specs.declared.tasks.PreparedTask.{PreparedTask}
use Rattle.search_routes.proofs.TaskLemmas.{accepted_step, need_of_room, taken}
use Rattle.durable_machine.specs.declared.machine.Answered.{Answered}

-- ---- openings

told_nothing : (told : Option (List Opening)) → and_then told [] ≡ told
told_nothing None = refl
told_nothing (Some rows) = ap Some (append-nil rows)

-- for want of memory nothing was opened
pub opens_nothing : (all : List Opening) (log : LogState) → Opens true all log log
opens_nothing all log = (
  record { gained = []; others = all; parts = refl; told = sym (told_nothing log.told) },
  record { low = omega arith; high = omega arith },
)

-- and where there was nothing to open
opens_none : (starved : Bool) (log : LogState) → Opens starved [] log log
opens_none true log = opens_nothing [] log
opens_none false log = (sym (told_nothing log.told), omega arith)

asked_none : (s : State) (q : Request) (r : Result CallData _) → call_of q ≡ r → asked_opened s r ≡ [] → opened_by s q ≡ []
unfolding opened_by
asked_none s q r is none = ap (asked_opened s) is ∙ none

-- a change opens no bucket
pub write_opens : (s : State) (q : Request) (c : ChangeData) (starved : Bool) (log : LogState) → call_of q ≡ Ok (write c) → Opens starved (opened_by s q) log log
write_opens s q c starved log is = subst (λ (all : List Opening). Opens starved all log log) (sym (asked_none s q (Ok (write c)) is refl)) (opens_none starved log)

-- nor does a request that is refused by what it says
pub refused_opens : (s : State) (q : Request) (why : _) (starved : Bool) (log : LogState) → call_of q ≡ Err why → Opens starved (opened_by s q) log log
refused_opens s q why starved log is = subst (λ (all : List Opening). Opens starved all log log) (sym (asked_none s q (Err why) is refl)) (opens_none starved log)

-- ---- steps

step_asked : (s : State) (q : Request) (r : Result CallData _) → call_of q ≡ r → step s q ≡ unless_refused s (r >>= outcome s)
unfolding step
step_asked s q r is = ap (λ r. unless_refused s (r >>= outcome s)) is

-- a reply, and what the machine holds then
pub record Replied (s : State) (q : Request) (reply : Reply) (new : State) (starved : Bool) : Type 0 where
  pub sent : IsSentAs reply (answer_of s q starved)
  pub state : new ≡ state_after s q starved

-- to a request that is refused by what it says
pub refused_replied : (s : State) (q : Request) (why : _) (reply : Reply) → call_of q ≡ Err why → IsSentAs reply (refused why) → Replied s q reply s false
refused_replied s q why reply is sent =
    let step_is : step s q ≡ told s (refused why) = step_asked s q (Err why) is in
    record {
      sent = subst (λ (t : Step). IsSentAs reply (answer_in t false)) (sym step_is) sent;
      state = subst (λ (t : Step). s ≡ state_in s t false) (sym step_is) refl;
    }

-- to a change of which no task was made
pub leaves_replied : (s : State) (q : Request) (c : ChangeData) (reply : Reply) (new : State) → call_of q ≡ Ok (write c) → Leaves s (performed s (write c)) reply new
    → (starved : Bool) × Replied s q reply new starved
leaves_replied s q c reply new is leaves =
    let made : Leaves s (step s q) reply new = subst (λ (t : Step). Leaves s t reply new) (sym (step_asked s q (Ok (write c)) is)) leaves in
    (made.0, record { sent = made.1; state = made.2 })

-- the step of a change whose task was prepared
taken_step : (s : State) (q : Request) (c : ChangeData) (prepared : PreparedTask) → call_of q ≡ Ok (write c) → IsPrepared (accepted s) c prepared → step s q ≡ taken s c prepared.task
taken_step s q c prepared is ready = step_asked s q (Ok (write c)) is ∙ accepted_step s c prepared ready

pub taken_state : (s : State) (q : Request) (c : ChangeData) (prepared : PreparedTask) → call_of q ≡ Ok (write c) → IsPrepared (accepted s) c prepared
    → state_after s q false ≡ behind prepared.task (make_room changed s)
taken_state s q c prepared is ready = ap (λ (t : Step). t.state) (taken_step s q c prepared is ready)

pub taken_sent : (s : State) (q : Request) (c : ChangeData) (prepared : PreparedTask) → call_of q ≡ Ok (write c) → IsPrepared (accepted s) c prepared
    → IsSentAs prepared.reply (answer_of s q false)
taken_sent s q c prepared is ready = subst (λ (t : Step). IsSentAs prepared.reply (answer_in t false)) (sym (taken_step s q c prepared is ready)) ready.reply

-- no batch follows its reply
pub taken_follows : (s : State) (q : Request) (c : ChangeData) (prepared : PreparedTask) → call_of q ≡ Ok (write c) → IsPrepared (accepted s) c prepared → is_followed s q false ≡ false
taken_follows s q c prepared is ready = ap (λ (t : Step). if t.answer.status == 202 then false else true) (taken_step s q c prepared is ready)

-- it needs what making room needs
pub taken_need : (s : State) (q : Request) (c : ChangeData) (prepared : PreparedTask) → call_of q ≡ Ok (write c) → IsPrepared (accepted s) c prepared → needed_fetches s q ≡ room_need s
unfolding needed_fetches
taken_need s q c prepared is ready = ap (asked_need s) is ∙ need_of_room s ready.room

-- ---- room

-- to make room changes nothing of what is left once all tasks have run
pub room_run : (s room : State) → room ≡ make_room changed s → run_out changed room ≡ run_out changed s
room_run s room is = ap (run_out changed) is ∙ room_out changed s

pub on_err : {T E : Type 0} (r : Result T E) (P : Type 0) → P → OnErr r P
on_err (Ok x) P p = tt
on_err (Err e) P p = p

-- ---- a change whose task was prepared, once there is room

module _ (s : State) (q : Request) (c : ChangeData) (prepared : PreparedTask) (is : call_of q ≡ Ok (write c)) (ready : IsPrepared (accepted s) c prepared)
    (room : State) (made : room ≡ make_room changed s) where
  pub taken_waits : state_after s q false ≡ behind prepared.task room
  taken_waits = taken_state s q c prepared is ready ∙ ap (behind prepared.task) (sym made)

  -- its answer is that of its step
  pub taken_answer : {E : Type 0} (r : Result Answered E) (new : State) → OnOk r (new ≡ behind prepared.task room) → IfOk r (λ done. done.reply ≡ prepared.reply) → IfOk r (λ done. done.follows ≡ false)
      → IfOk r (λ done. (new ≡ state_after s q false) × IsSentAs done.reply (answer_of s q false) × (done.follows ≡ is_followed s q false))
  taken_answer (Ok done) new waits reply follows =
      (waits ∙ sym taken_waits, subst (λ (p : Reply). IsSentAs p (answer_of s q false)) (sym reply) (taken_sent s q c prepared is ready), follows ∙ sym (taken_follows s q c prepared is ready))
  taken_answer (Err e) new waits reply follows = tt
