-- From what a call did to the step that it made.
use Rattle.std.proofs.Common.{◌≡◌, true, false, List, [], Result, Ok, Err, refl, sym, ap, subst}
use Rattle.bucket_sort.specs.declared.log.Opening.{Opening}
use Rattle.bucket_sort.specs.Opens.{LogState, Opens, is_starved}
use Rattle.index_core.proofs.Opening.{opens-none, opens-some}
use Rattle.document_changes.specs.Changes.{change_view}
use Rattle.http_wire.specs.Stream.{Request}
use Rattle.http_wire.specs.Sent.{IsSentAs}
use Rattle.http_wire.specs.declared.reply.Reply.{Reply}
use Rattle.request_refusals.specs.declared.refusal.Refusal.{Refusal}
use Rattle.search_base.specs.declared.fault.Fault.{Fault}
use Rattle.search_base.specs.declared.fault.Fault.TheVariants as fault
use Rattle.search_base.specs.Trying.{◌>>=◌}
use Rattle.request_calls.specs.declared.call.Call.{Call}
use Rattle.request_calls.specs.declared.call.Call.TheVariants as call
use Rattle.request_calls.specs.Asked.{CallData, ReadData, read, read_view, write}
use Rattle.request_calls.specs.Calls.{call_of, IsCall}
use Rattle.request_calls.specs.Refusals.{refused}
use Rattle.search_routes.specs.State.{State}
use Rattle.search_routes.specs.Machine.{Step, answer_to, outcome, performed, step, told, unless_refused}
use Rattle.search_routes.specs.Needs.{asked_need, needed_fetches}
use Rattle.search_routes.specs.Openings.{asked_most, asked_opened, call_opened, most_opened_by, opened_by}
use Rattle.search_routes.specs.Done.{Answered, Answers, Leaves, Makes, Noted, Performs, Sends, held_most, held_need, noted}

-- An answer that was sent or refused, and the reply to that. For the reply memory may be wanting after all.
pub read_made : (s : State) (c : ReadData) (all : List Opening) (old new : LogState) (done : Result Reply (Fault Refusal)) (reply : Reply)
    → Sends (answer_to s c) done → Answers done reply → Opens (is_starved done) all old new → Makes (performed s (read c)) all (noted s old) reply (noted s new)
read_made s c all old new (Ok given) reply (a, is, sent) same opens =
    let answers : performed s (read c) ≡ told s a = rw is refl in
    subst (λ (t : Step). Makes t all (noted s old) reply (noted s new)) (sym answers) (false, rw same sent, refl, opens)
read_made s c all old new (Err fault.NoMemory) reply free same opens =
    (true, rw same (record { status = refl; body = refl; each = λ closes. refl }), refl, opens)
read_made s c all old new (Err (fault.Refused r)) reply is (true, sent) opens = (true, sent, refl, opens-some false all old new opens)
read_made s c all old new (Err (fault.Refused r)) reply is (false, sent) opens =
    let refuses : performed s (read c) ≡ told s (refused r) = rw is refl in
    subst (λ (t : Step). Makes t all (noted s old) reply (noted s new)) (sym refuses) (false, sent, refl, opens)

-- what opens no bucket tells none
pub write_made : (t : Step) (log : LogState) (old new : State) (reply : Reply) → Leaves old t reply new → Makes t [] (noted old log) reply (noted new log)
write_made t log old new reply (starved, sent, state) = (starved, sent, state, opens-none starved log)

-- what was done for a call was done for what asks for it
asked_made : (old : Noted) (asked : Result CallData Refusal) (what : CallData) (reply : Reply) (new : Noted) → asked ≡ Ok what
    → Makes (performed old.state what) (call_opened old.state what) old reply new
    → Makes (unless_refused old.state (asked >>= outcome old.state)) (asked_opened old.state asked) old reply new
asked_made old asked what reply new is made =
    subst (λ (r : Result CallData Refusal). Makes (unless_refused old.state (r >>= outcome old.state)) (asked_opened old.state r) old reply new) (sym is) made

-- and what is refused has its own reply
refused_made : (old : Noted) (asked : Result CallData Refusal) (why : Refusal) (given reply : Reply) (new : Noted) → asked ≡ Err why → IsSentAs given (refused why) → reply ≡ given → new ≡ old
    → Makes (unless_refused old.state (asked >>= outcome old.state)) (asked_opened old.state asked) old reply new
refused_made old asked why given reply new is sent same stays =
    subst (λ (r : Result CallData Refusal). Makes (unless_refused old.state (r >>= outcome old.state)) (asked_opened old.state r) old reply new) (sym is)
    (false, rw same sent, ap (λ n. n.state) stays, subst (λ (n : Noted). Opens false [] old.log n.log) (sym stays) (opens-none false old.log))

-- a request's call was performed
pub step_made : (old : Noted) (q : Request) (call : Call) (reply : Reply) (new : Noted) → IsCall call (call_of q) → Performs old call reply new → Answered old q reply new
unfolding step opened_by
step_made old q (call.Refused given) reply new (why, is, sent) (same, stays) = refused_made old (call_of q) why given reply new is sent same stays
step_made old q (call.Write change) reply new is made = asked_made old (call_of q) (write (change_view change)) reply new is made
step_made old q (call.Read c) reply new is made = asked_made old (call_of q) (read (read_view c)) reply new is made

-- what it needs is what the request needs
pub need_made : (s : State) (q : Request) (call : Call) → IsCall call (call_of q) → held_need s call ≡ needed_fetches s q
unfolding needed_fetches
need_made s q (call.Refused given) (r, is, sent) = sym (ap (asked_need s) is)
need_made s q (call.Write change) is = sym (ap (asked_need s) is)
need_made s q (call.Read c) is = sym (ap (asked_need s) is)

-- and it opens at most as many buckets
pub most_made : (s : State) (q : Request) (call : Call) → IsCall call (call_of q) → held_most s call ≡ most_opened_by s q
unfolding most_opened_by
most_made s q (call.Refused given) (r, is, sent) = sym (ap (asked_most s) is)
most_made s q (call.Write change) is = sym (ap (asked_most s) is)
most_made s q (call.Read c) is = sym (ap (asked_most s) is)
