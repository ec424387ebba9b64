-- From turns to what serving a link did.
use Rattle.std.proofs.Common.{◌≡◌, ◌⊎◌, ℕ, ◌+◌, ◌-◌, ◌<◌, ◌≤◌, Bool, true, false, List, [], ◌∷◌, ◌++◌, length, take, Option, Some, None, IfSome, refl, ap, sym, ◌∙◌, subst, arith, inl, inr, append-nil}
use Rattle.std.specs.Io.KnownBytes.{prepend_known, append_known}
use Rattle.std.proofs.lemmas.List.{length-append}
use Rattle.std.proofs.lemmas.Grind.{flat_map-append}
use Rattle.std.proofs.lemmas.Bool.{false≢true}
use Rattle.std.specs.Prelude.{◌≢◌}
use Rattle.http_wire.specs.Head.{IsBlank}
use Rattle.http_wire.specs.Stream.{Request, Stream, End, between, closed, spent, rest, bad, fresh, most_requests, Follows, Ends, IsRequest, IsBad, IsPart, IsOpen, after_request}
use Rattle.http_wire.specs.Reply.{wire, refusal_answer, WrotePart}
use Rattle.http_wire.specs.declared.HeadKind.{HeadKind}
use Rattle.search_routes.specs.State.{State}
use Rattle.queued_changes.specs.State.{accepted}
use Rattle.search_routes.specs.Chosen.{Event, EndsIn, after, state_after, stepped}
use Rattle.queued_changes.specs.Run.{answered}
use Rattle.named_indexes.specs.Changes.{changed}
use Rattle.search_routes.specs.Openings.{opened_by, most_opened_by}
use Rattle.bucket_sort.specs.Opens.{LogState, Opens}
use Rattle.search_server.specs.LinkState.{LinkState}
use Rattle.search_server.specs.Run.{requests_of, replies, reply_to, behind_event, event_need, end_replies, Logs}
use Rattle.search_server.specs.Turns.{Taken, Replied, NotFollowed, ReplyCut, NotRecorded, NoneTaken, Quiet, TurnIs, end_by}
use Rattle.search_server.specs.declared.status.LinkEnd.{LinkEnd}
use Rattle.search_server.specs.declared.turn.Turn.{Turn}
use Rattle.search_server.specs.declared.turn.Turn.TheVariants as turn
use Rattle.search_server.specs.declared.status.Status.{Status}
use Rattle.search_server.specs.declared.status.Status.TheVariants as link
use Rattle.change_journal.specs.Fits.{IsDue}
use Rattle.durable_machine.specs.declared.machine.DurableMachine.{DurableMachine}
use Rattle.search_server.specs.Passed.{PassedIfDue}
use Rattle.search_server.specs.Statuses.{DiskRose, IsCaused, IsGoing}
use Rattle.search_server.proofs.Progress.{Progress, LeftBy}
use Rattle.search_server.specs.Served.{join, Spends, Went, Served, Answers, FirstAnswers, CutAnswers, GivenAnswers, IsUnfinished, Unrecorded}
use Rattle.search_server.proofs.Runs.{follows_more, replies_more, after_more, needs_more, logs_more, most_more, requests_more, known_rest, given_of}
use Rattle.http_wire.proofs.Writes.{append_known-append}

-- pieces and one more
pub join_more : (told0 told1 told2 : Option (List ℕ)) (pieces : List (List ℕ)) (piece : List ℕ)
    → told1 ≡ append_known told0 (join pieces) → told2 ≡ append_known told1 piece → told2 ≡ append_known told0 (join (pieces ++ piece ∷ []))
join_more told0 told1 told2 pieces piece e f =
    f ∙ ap (λ v. append_known v piece) e ∙ append_known-append told0 (join pieces) piece
    ∙ ap (λ v. append_known told0 v) (sym (flat_map-append (λ (p : List ℕ). p) pieces (piece ∷ []) ∙ ap (λ v. join pieces ++ v) (append-nil piece)))

append_none : (known : Option (List ℕ)) → append_known known [] ≡ known
append_none None = refl
append_none (Some xs) = ap (λ (v : List ℕ). Some v) (append-nil xs)

went_nowhere : (s : LinkState) → Went s s 0 false []
went_nowhere s = record { ends = refl; spends = record { fetched = omega arith; logged = refl; opened = omega arith; count = refl } }

pub starts : (bytes : List ℕ) (start here : LinkState) → here.pending ≡ Some bytes → here.told ≡ start.told → here.state ≡ start.state
    → here.fetches ≡ start.fetches → here.log ≡ start.log → Progress bytes start here 0 false
starts bytes start here pending told state fetches log = record {
  events = [];
  went = record {
    ends = state;
    spends = record { fetched = omega (arith, fetches); logged = log; opened = omega (arith, ap (λ (v : LogState). v.opened) log); count = refl };
  };
  rest = bytes;
  pending_is = pending;
  follows = refl;
  told_is = told ∙ sym (append_none start.told);
}

-- a link from which nothing was read, and that was told nothing
pub nothing_yet : (bytes : List ℕ) (s : LinkState) → FirstAnswers bytes s s 0 false
nothing_yet bytes s = record {
  events = [];
  went = went_nowhere s;
  stream = fresh bytes;
  follows = refl;
  told = sym (append_none s.told);
}

-- a request more, for a link that may bring more
pub record Longer (bytes : List ℕ) (events : List Event) (e : Event) (pending : Option (List ℕ)) (n : ℕ) : Type 0 where
  pub rest : List ℕ
  pub pending_is : pending ≡ Some rest
  pub follows : Follows (fresh bytes) (requests_of (events ++ e ∷ [])) (record { left = most_requests - (n + 1); closed = e.request.closes; bytes = rest })

longer : (bytes : List ℕ) (start here : LinkState) (n : ℕ) (e : Event) (later : Option (List ℕ)) (p : Progress bytes start here n false)
    → n < most_requests → (front : List ℕ) → here.pending ≡ prepend_known front later → IsRequest front e.request → Longer bytes p.events e later n
longer bytes start here n e later p less front at is =
    let (r, after', all) = known_rest p.rest front later (sym p.pending_is ∙ at) in
    let t : Stream = record { left = most_requests - n; closed = false; bytes = p.rest } in
    let some : 0 < most_requests - n = omega arith in
    let more : Follows (fresh bytes) (requests_of p.events ++ e.request ∷ []) (after_request t e.request r) =
    follows_more (fresh bytes) (requests_of p.events) t e.request r p.follows (refl, some) (front, all, is) in
    let step : most_requests - n - 1 ≡ most_requests - (n + 1) = omega arith in
    let F : List Request → Type 0 = λ v. Follows (fresh bytes) v (record { left = most_requests - (n + 1); closed = e.request.closes; bytes = r }) in
    let L : ℕ → Type 0 = λ v. Follows (fresh bytes) (requests_of p.events ++ e.request ∷ []) (record { left = v; closed = e.request.closes; bytes = r }) in
    record {
      rest = r;
      pending_is = after';
      follows = subst F (sym (requests_more p.events e)) (subst L step more);
    }

-- the reply to the next request
next_reply : (s0 s : State) (n : ℕ) (events : List Event) (e : Event) → s ≡ after s0 events → n ≡ length events
    → replies most_requests s0 (events ++ e ∷ []) ≡ replies most_requests s0 events ++ reply_to (most_requests - n) s e ∷ []
next_reply s0 s n events e at count =
    replies_more most_requests s0 events e
    ∙ ap (λ m. replies most_requests s0 events ++ reply_to (most_requests - m) (after s0 events) e ∷ []) (sym count)
    ∙ ap (λ v. replies most_requests s0 events ++ reply_to (most_requests - n) v e ∷ []) (sym at)

-- one request more was taken
spends_more : (start here new : LinkState) (n : ℕ) (events : List Event) (e : Event) → Went start here n false events → Taken here new e
    → Spends start new (n + 1) (events ++ e ∷ [])
spends_more start here new n events e went one =
    let all = needs_more start.state events e in
    let need : event_need here.state e ≡ event_need (after start.state events) e = ap (λ v. event_need v e) went.ends in
    let most = most_more start.state events e in
    let most_here : most_opened_by here.state e.request ≡ most_opened_by (after start.state events) e.request = ap (λ v. most_opened_by v e.request) went.ends in
    record {
      fetched = omega (arith, all, need, went.spends.fetched, one.fetched);
      logged = logs_more start.state events e start.log here.log new.log went.spends.logged
          (subst (λ v. Opens e.starved (opened_by v e.request) here.log new.log) went.ends one.opens);
      opened = omega (arith, most, most_here, went.spends.opened, one.few);
      count = omega (arith, went.spends.count, length-append events (e ∷ []));
    }

-- the machine went through one event more
went_more : (start here new : LinkState) (n : ℕ) (events : List Event) (e : Event) → Went start here n false events → Taken here new e
    → new.state ≡ behind_event here.state e → Went start new (n + 1) false (events ++ e ∷ [])
went_more start here new n events e went one state = record {
  ends = state ∙ ap (λ v. behind_event v e) went.ends ∙ sym (after_more start.state events e);
  spends = spends_more start here new n events e went one;
}

answered_is : (s : State) (e : Event) → state_after s e.request e.starved ≡ answered changed stepped s e.request e.starved
answered_is s e = by_case e.starved
  where
    by_case : (b : Bool) → state_after s e.request b ≡ answered changed stepped s e.request b
    by_case true = refl
    by_case false = refl

-- the same, and the batch behind its reply did not run
went_marked : (start here new : LinkState) (n : ℕ) (events : List Event) (e : Event) → Went start here n false events → Taken here new e
    → new.state ≡ state_after here.state e.request e.starved → Went start new (n + 1) true (events ++ e ∷ [])
went_marked start here new n events e went one state = record {
  ends = (events, e, refl, state ∙ ap (λ v. state_after v e.request e.starved) went.ends ∙ answered_is (after start.state events) e);
  spends = spends_more start here new n events e went one;
}

-- no more was read or opened
spends_so : (start here new : LinkState) (n : ℕ) (events : List Event) → Spends start here n events → new.fetches ≡ here.fetches → new.log ≡ here.log
    → Spends start new n events
spends_so start here new n events spends fetches log = record {
  fetched = omega (arith, fetches, spends.fetched);
  logged = subst (λ v. Logs start.state events start.log v) (sym log) spends.logged;
  opened = omega (arith, ap (λ (v : LogState). v.opened) log, spends.opened);
  count = spends.count;
}

-- it went no further
went_so : (start here new : LinkState) (n : ℕ) (mark : Bool) (events : List Event) → Went start here n mark events → new.state ≡ here.state → new.fetches ≡ here.fetches
    → new.log ≡ here.log → Went start new n mark events
went_so start here new n mark events went state fetches log = record {
  ends = subst (λ v. EndsIn mark start.state events v) (sym state) went.ends;
  spends = spends_so start here new n events went.spends fetches log;
}

pub goes_on : (bytes : List ℕ) (start old new : LinkState) (n : ℕ) (closes : Bool) → Progress bytes start old n false → n < most_requests
    → Replied (most_requests - n) old new closes → Progress bytes start new (n + 1) closes
goes_on bytes start old new n closes p less r =
    let l : Longer bytes p.events r.event new.pending n = longer bytes start old n r.event new.pending p less r.taken.takes.0 r.taken.takes.1 r.taken.takes.2 in
    let F : Bool → Type 0 = λ v. Follows (fresh bytes) (requests_of (p.events ++ r.event ∷ [])) (record { left = most_requests - (n + 1); closed = v; bytes = l.rest }) in
    record {
      events = p.events ++ r.event ∷ [];
      went = went_more start old new n p.events r.event p.went r.taken r.state;
      rest = l.rest;
      pending_is = l.pending_is;
      follows = subst F r.closes_is l.follows;
      told_is = join_more start.told old.told new.told (replies most_requests start.state p.events) (reply_to (most_requests - n) old.state r.event) p.told_is r.told
          ∙ ap (λ v. append_known start.told (join v)) (sym (next_reply start.state old.state n p.events r.event p.went.ends p.went.spends.count));
    }

-- ---- the ends

-- what is known of the bytes that are left
known_is : (pending : Option (List ℕ)) (xs : List ℕ) (P : List ℕ → Type 0) → pending ≡ Some xs → IfSome pending P → P xs
known_is pending xs P e h = let Q : Option (List ℕ) → Type 0 = λ v. IfSome v P in subst Q e h

-- with nothing more to write
with_nothing : (told0 : Option (List ℕ)) (pieces : List (List ℕ)) (end : End) → end_replies end ≡ []
    → append_known told0 (join pieces) ≡ append_known told0 (join (pieces ++ end_replies end))
with_nothing told0 pieces end none =
    ap (λ v. append_known told0 (join v)) (sym (append-nil pieces) ∙ ap (λ v. pieces ++ v) (sym none))

-- the link ended with nothing more to write
ended : (bytes : List ℕ) (start here final : LinkState) (n : ℕ) (closes : Bool) (end : End) (p : Progress bytes start here n closes)
    → Ends (record { left = most_requests - n; closed = closes; bytes = p.rest }) end → end_replies end ≡ []
    → final.told ≡ here.told → final.state ≡ here.state → final.fetches ≡ here.fetches → final.log ≡ here.log → Answers bytes start final n end
ended bytes start here final n closes end p ends none told state fetches log = record {
  events = p.events;
  went = went_so start here final n false p.events p.went state fetches log;
  requests = (record { left = most_requests - n; closed = closes; bytes = p.rest }, p.follows, ends);
  told = told ∙ p.told_is ∙ with_nothing start.told (replies most_requests start.state p.events) end none;
}

-- more requests may come
awake : (n : ℕ) → n < most_requests → 0 < most_requests - n
awake n less = omega arith

pub ends_spent : (bytes : List ℕ) (start here final : LinkState) (n : ℕ) (kept : List ℕ) → Progress bytes start here n false → n ≡ most_requests
    → LeftBy kept here final → Answers bytes start final most_requests spent
ends_spent bytes start here final n kept p e l =
    let none : most_requests - n ≡ 0 = omega arith in
    let A : ℕ → Type 0 = λ v. Answers bytes start final v spent in
    subst A e (ended bytes start here final n false spent p (refl, none) refl l.told l.state l.fetches l.log)

bad_answers : (bytes : List ℕ) (start old new final : LinkState) (n : ℕ) (kind : HeadKind) (number : ℕ) (kept : List ℕ) → Progress bytes start old n false
    → n < most_requests → NoneTaken old new → IfSome old.pending (λ xs. IsBad xs kind number)
    → new.told ≡ append_known old.told (wire (refusal_answer kind) true) → LeftBy kept new final → Answers bytes start final n (bad kind number)
bad_answers bytes start old new final n kind number kept p less q wrong told l = record {
  events = p.events;
  went = went_so start old final n false p.events p.went (l.state ∙ q.state) (l.fetches ∙ q.fetches) (l.log ∙ q.log);
  requests = (
    record { left = most_requests - n; closed = false; bytes = p.rest },
    p.follows,
    ((refl, awake n less), known_is old.pending p.rest (λ xs. IsBad xs kind number) p.pending_is wrong),
  );
  told = join_more start.told old.told final.told (replies most_requests start.state p.events) (wire (refusal_answer kind) true) p.told_is (l.told ∙ told);
}

-- the refusal of a head was cut short
refusal_cut : (bytes : List ℕ) (start old new final : LinkState) (n : ℕ) (kind : HeadKind) (number : ℕ) (kept : List ℕ) → Progress bytes start old n false
    → n < most_requests → NoneTaken old new → IfSome old.pending (λ xs. IsBad xs kind number)
    → WrotePart old.told new.told (wire (refusal_answer kind) true) → LeftBy kept new final → CutAnswers bytes start final n
refusal_cut bytes start old new final n kind number kept p less q wrong (size, short, told) l = record {
  mark = false;
  events = p.events;
  went = went_so start old final n false p.events p.went (l.state ∙ q.state) (l.fetches ∙ q.fetches) (l.log ∙ q.log);
  stream = record { left = most_requests - n; closed = false; bytes = p.rest };
  follows = p.follows;
  front = replies most_requests start.state p.events;
  last = wire (refusal_answer kind) true;
  outputs = (kind, number, ((refl, awake n less), known_is old.pending p.rest (λ xs. IsBad xs kind number) p.pending_is wrong), refl);
  told = (size, short, l.told ∙ told ∙ ap (λ v. append_known v (take size (wire (refusal_answer kind) true))) p.told_is);
}

-- a reply was cut short
reply_cut : (bytes : List ℕ) (start old new final : LinkState) (n : ℕ) (kept : List ℕ) → Progress bytes start old n false → n < most_requests
    → ReplyCut (most_requests - n) old new → LeftBy kept new final → CutAnswers bytes start final (n + 1)
reply_cut bytes start old new final n kept p less r l =
    let longer' : Longer bytes p.events r.event new.pending n = longer bytes start old n r.event new.pending p less r.taken.takes.0 r.taken.takes.1 r.taken.takes.2 in
    let went : Went start new (n + 1) true (p.events ++ r.event ∷ []) = went_marked start old new n p.events r.event p.went r.taken r.state in
    let (size, short, told) = r.told in
    record {
      mark = true;
      events = p.events ++ r.event ∷ [];
      went = went_so start new final (n + 1) true (p.events ++ r.event ∷ []) went l.state l.fetches l.log;
      stream = record { left = most_requests - (n + 1); closed = r.event.request.closes; bytes = longer'.rest };
      follows = longer'.follows;
      front = replies most_requests start.state p.events;
      last = reply_to (most_requests - n) old.state r.event;
      outputs = sym (next_reply start.state old.state n p.events r.event p.went.ends p.went.spends.count);
      told = (size, short, l.told ∙ told ∙ ap (λ v. append_known v (take size (reply_to (most_requests - n) old.state r.event))) p.told_is);
    }

-- a disk failed at a request
unrecorded : (bytes : List ℕ) (start old new final : LinkState) (n : ℕ) (kept : List ℕ) → Progress bytes start old n false → n < most_requests
    → NotRecorded old new → LeftBy kept new final → Unrecorded bytes start final (n + 1)
unrecorded bytes start old new final n kept p less r l =
    let longer' : Longer bytes p.events r.event new.pending n = longer bytes start old n r.event new.pending p less r.taken.takes.0 r.taken.takes.1 r.taken.takes.2 in
    let spends : Spends start new (n + 1) (p.events ++ r.event ∷ []) = spends_more start old new n p.events r.event p.went r.taken in
    record {
      front = p.events;
      last = r.event;
      spends = spends_so start new final (n + 1) (p.events ++ r.event ∷ []) spends l.fetches l.log;
      stream = record { left = most_requests - (n + 1); closed = r.event.request.closes; bytes = longer'.rest };
      follows = longer'.follows;
      told = l.told ∙ r.told ∙ p.told_is;
      crash = rw (l.disk_a, l.disk_b, sym p.went.ends) r.crash;
    }

-- the batch behind a reply was put off
put_off : (bytes : List ℕ) (start old new final : LinkState) (n : ℕ) (kept : List ℕ) → Progress bytes start old n false → n < most_requests
    → NotFollowed (most_requests - n) old new → LeftBy kept new final → FirstAnswers bytes start final (n + 1) true
put_off bytes start old new final n kept p less r l =
    let longer' : Longer bytes p.events r.event new.pending n = longer bytes start old n r.event new.pending p less r.taken.takes.0 r.taken.takes.1 r.taken.takes.2 in
    let went : Went start new (n + 1) true (p.events ++ r.event ∷ []) = went_marked start old new n p.events r.event p.went r.taken r.state in
    record {
      events = p.events ++ r.event ∷ [];
      went = went_so start new final (n + 1) true (p.events ++ r.event ∷ []) went l.state l.fetches l.log;
      stream = record { left = most_requests - (n + 1); closed = r.event.request.closes; bytes = longer'.rest };
      follows = longer'.follows;
      told = l.told
          ∙ join_more start.told old.told new.told (replies most_requests start.state p.events) (reply_to (most_requests - n) old.state r.event) p.told_is r.told
          ∙ ap (λ v. append_known start.told (join v)) (sym (next_reply start.state old.state n p.events r.event p.went.ends p.went.spends.count));
    }

-- an end for bytes that are open
open_end : (left : ℕ) (bytes : List ℕ) → 0 < left → IsOpen bytes
    → (end : End) × IsUnfinished end × (end_replies end ≡ []) × Ends (record { left = left; closed = false; bytes = bytes }) end
open_end left bytes some (inl blank) = (between, inl refl, refl, ((refl, some), blank))
open_end left bytes some (inr part) = (rest (length bytes), inr (length bytes, refl), refl, ((refl, some), part, refl))

-- a read failed: the replies are those to all requests that came
given_answers : (bytes : List ℕ) (start old new final : LinkState) (n : ℕ) (kept : List ℕ) → Progress bytes start old n false → n < most_requests
    → Quiet old new → IsOpen kept → LeftBy kept new final → GivenAnswers bytes start final n
given_answers bytes start old new final n kept p less q opens l =
    let (more, left, all) = known_rest p.rest kept final.pending (sym p.pending_is ∙ sym q.none.pending ∙ l.pending) in
    let (given, whole, follows) = given_of (fresh bytes) (record { left = most_requests - n; closed = false; bytes = p.rest }) (requests_of p.events) kept more p.follows all in
    let (end, unfinished, none, ends) = open_end (most_requests - n) kept (awake n less) opens in
    record {
      given = given;
      more = more;
      all = whole;
      left = left;
      end = end;
      unfinished = unfinished;
      answers = record {
        events = p.events;
        went = went_so start old final n false p.events p.went (l.state ∙ q.none.state) (l.fetches ∙ q.none.fetches) (l.log ∙ q.none.log);
        requests = (record { left = most_requests - n; closed = false; bytes = kept }, follows, ends);
        told = l.told ∙ q.told ∙ p.told_is ∙ with_nothing start.told (replies most_requests start.state p.events) end none;
      };
    }

-- ---- a turn

abbrev Promised : List ℕ → LinkState → LinkState → LinkEnd → Type 0
Promised bytes start final end = Served bytes start final end.requests end.put_off end.status

as_end : (status : Status) (requests passed : ℕ) (end : LinkEnd) → (P : LinkEnd → Type 0)
    → Some (record { status = status; requests = requests; passed = passed; put_off = false }) ≡ Some end
    → P (record { status = status; requests = requests; passed = passed; put_off = false }) → P end
as_end status requests passed end P ends p =
    let same : record { status = status; requests = requests; passed = passed; put_off = false } ≡ end = cc in subst P same p

as_put_off : (requests passed : ℕ) (end : LinkEnd) → (P : LinkEnd → Type 0)
    → Some (record { status = link.NoMemory; requests = requests; passed = passed; put_off = true }) ≡ Some end
    → P (record { status = link.NoMemory; requests = requests; passed = passed; put_off = true }) → P end
as_put_off requests passed end P ends p =
    let same : record { status = link.NoMemory; requests = requests; passed = passed; put_off = true } ≡ end = cc in subst P same p

-- what was written, by the turn that ended the link
pub served_by : (bytes : List ℕ) (start old new final : LinkState) (n passed : ℕ) (kept : List ℕ) (t : Turn) (end : LinkEnd) → Progress bytes start old n false
    → n < most_requests → TurnIs (most_requests - n) old new kept t → end_by n passed t ≡ Some end → LeftBy kept new final → Promised bytes start final end
served_by bytes start old new final n passed kept turn.Next end p less is ends l = absurd (cc)
served_by bytes start old new final n passed kept turn.Closed end p less is ends l =
    let on = goes_on bytes start old new n true p less is in
    as_end link.Done (n + 1) passed end (Promised bytes start final) ends (closed, inr refl, ended bytes start new final (n + 1) true closed on refl refl l.told l.state l.fetches l.log)
served_by bytes start old new final n passed kept turn.PutOff end p less is ends l =
    as_put_off (n + 1) passed end (Promised bytes start final) ends (put_off bytes start old new final n kept p less is l)
served_by bytes start old new final n passed kept turn.End end p less (q, blank) ends l =
    as_end link.Done n passed end (Promised bytes start final) ends (
      between,
      inl refl,
      ended bytes start old final n false between p ((refl, awake n less), known_is old.pending p.rest IsBlank p.pending_is blank) refl
          (l.told ∙ q.told) (l.state ∙ q.none.state) (l.fetches ∙ q.none.fetches) (l.log ∙ q.none.log),
    )
served_by bytes start old new final n passed kept (turn.CutShort size) end p less (q, some, part) ends l =
    let here : IsPart p.rest × (size ≡ length p.rest) = known_is old.pending p.rest (λ xs. IsPart xs × (size ≡ length xs)) p.pending_is part in
    as_end (link.CutShort size) n passed end (Promised bytes start final) ends
    (ended bytes start old final n false (rest size) p ((refl, awake n less), here.0, here.1) refl (l.told ∙ q.told) (l.state ∙ q.none.state) (l.fetches ∙ q.none.fetches) (l.log ∙ q.none.log))
served_by bytes start old new final n passed kept (turn.Bad kind number) end p less (q, wrong, told) ends l =
    as_end (link.BadHead kind number) n passed end (Promised bytes start final) ends (bad_answers bytes start old new final n kind number kept p less q wrong told l)
served_by bytes start old new final n passed kept turn.ReadFault end p less (q, opens, rose) ends l =
    as_end link.ReadFault n passed end (Promised bytes start final) ends (given_answers bytes start old new final n kept p less q opens l)
served_by bytes start old new final n passed kept turn.ReplyFault end p less (r, rose) ends l =
    as_end link.WriteFault (n + 1) passed end (Promised bytes start final) ends (reply_cut bytes start old new final n kept p less r l)
served_by bytes start old new final n passed kept (turn.RefusalFault kind number) end p less (q, wrong, told, rose) ends l =
    as_end link.WriteFault n passed end (Promised bytes start final) ends (refusal_cut bytes start old new final n kind number kept p less q wrong told l)
served_by bytes start old new final n passed kept turn.DiskFault end p less (r, rose) ends l =
    as_end link.DiskFault (n + 1) passed end (Promised bytes start final) ends (unrecorded bytes start old new final n kept p less r l)
served_by bytes start old new final n passed kept turn.NoMemory end p less q ends l =
    as_end link.NoMemory n passed end (Promised bytes start final) ends (record {
      events = p.events;
      went = went_so start old final n false p.events p.went (l.state ∙ q.none.state) (l.fetches ∙ q.none.fetches) (l.log ∙ q.none.log);
      stream = record { left = most_requests - n; closed = false; bytes = p.rest };
      follows = p.follows;
      told = l.told ∙ q.told ∙ p.told_is;
    })

-- and by what cause
abbrev Caused : LinkState → LinkState → LinkEnd → Type 0
Caused start final end = IsCaused start final end.status

-- no count of faults fell
pub record Later (start old : LinkState) : Type 0 where
  pub reads : start.read_faults ≤ old.read_faults
  pub writes : start.write_faults ≤ old.write_faults
  pub disk_a : start.disk_a.faults ≤ old.disk_a.faults
  pub disk_b : start.disk_b.faults ≤ old.disk_b.faults

disk_rose : (start old new final : LinkState) (kept : List ℕ) → Later start old → DiskRose old.disk_a old.disk_b new.disk_a new.disk_b → LeftBy kept new final
    → DiskRose start.disk_a start.disk_b final.disk_a final.disk_b
disk_rose start old new final kept later (inl rose) l = let same = ap (λ d. d.faults) l.disk_a in inl (omega (arith, rose, later.disk_a, same))
disk_rose start old new final kept later (inr rose) l = let same = ap (λ d. d.faults) l.disk_b in inr (omega (arith, rose, later.disk_b, same))

pub caused_by : (start old new final : LinkState) (left n passed : ℕ) (kept : List ℕ) (t : Turn) (end : LinkEnd) → Later start old → TurnIs left old new kept t → end_by n passed t ≡ Some end → LeftBy kept new final → Caused start final end
caused_by start old new final left n passed kept turn.Next end later is ends l = absurd (cc)
caused_by start old new final left n passed kept turn.Closed end later is ends l = as_end link.Done (n + 1) passed end (Caused start final) ends tt
caused_by start old new final left n passed kept turn.PutOff end later is ends l = as_put_off (n + 1) passed end (Caused start final) ends tt
caused_by start old new final left n passed kept turn.End end later is ends l = as_end link.Done n passed end (Caused start final) ends tt
caused_by start old new final left n passed kept (turn.CutShort size) end later (q, some, part) ends l =
    as_end (link.CutShort size) n passed end (Caused start final) ends some
caused_by start old new final left n passed kept (turn.Bad kind number) end later is ends l =
    as_end (link.BadHead kind number) n passed end (Caused start final) ends tt
caused_by start old new final left n passed kept turn.ReadFault end later (q, opens, rose) ends l =
    as_end link.ReadFault n passed end (Caused start final) ends (omega (arith, rose, later.reads, l.read_faults))
caused_by start old new final left n passed kept turn.ReplyFault end later (r, rose) ends l =
    as_end link.WriteFault (n + 1) passed end (Caused start final) ends (omega (arith, rose, later.writes, l.write_faults))
caused_by start old new final left n passed kept (turn.RefusalFault kind number) end later (q, wrong, told, rose) ends l =
    as_end link.WriteFault n passed end (Caused start final) ends (omega (arith, rose, later.writes, l.write_faults))
caused_by start old new final left n passed kept turn.DiskFault end later (r, rose) ends l =
    as_end link.DiskFault (n + 1) passed end (Caused start final) ends (disk_rose start old new final kept later rose l)
caused_by start old new final left n passed kept turn.NoMemory end later is ends l = as_end link.NoMemory n passed end (Caused start final) ends tt

-- and what waits, where a batch was put off
abbrev Waits : LinkState → LinkEnd → Type 0
Waits final end = end.put_off ≡ true → (end.status ≡ link.NoMemory) × (final.state.queue ≢ [])

-- nothing was put off
none_waits : (status : Status) (requests passed : ℕ) (final : LinkState) (end : LinkEnd)
    → Some (record { status = status; requests = requests; passed = passed; put_off = false }) ≡ Some end → Waits final end
none_waits status requests passed final end ends = as_end status requests passed end (Waits final) ends (λ e. absurd (false≢true e))

pub waits_by : (old new final : LinkState) (left n passed : ℕ) (kept : List ℕ) (t : Turn) (end : LinkEnd) → TurnIs left old new kept t → end_by n passed t ≡ Some end → LeftBy kept new final
    → Waits final end
waits_by old new final left n passed kept turn.Next end is ends l = absurd (cc)
waits_by old new final left n passed kept turn.Closed end is ends l = none_waits link.Done (n + 1) passed final end ends
waits_by old new final left n passed kept turn.PutOff end is ends l =
    as_put_off (n + 1) passed end (Waits final) ends (λ e. (refl, λ none. is.waits (sym (ap (λ (s : State). s.queue) l.state) ∙ none)))
waits_by old new final left n passed kept turn.End end is ends l = none_waits link.Done n passed final end ends
waits_by old new final left n passed kept (turn.CutShort size) end is ends l = none_waits (link.CutShort size) n passed final end ends
waits_by old new final left n passed kept (turn.Bad kind number) end is ends l = none_waits (link.BadHead kind number) n passed final end ends
waits_by old new final left n passed kept turn.ReadFault end is ends l = none_waits link.ReadFault n passed final end ends
waits_by old new final left n passed kept turn.ReplyFault end is ends l = none_waits link.WriteFault (n + 1) passed final end ends
waits_by old new final left n passed kept (turn.RefusalFault kind number) end is ends l = none_waits link.WriteFault n passed final end ends
waits_by old new final left n passed kept turn.DiskFault end is ends l = none_waits link.DiskFault (n + 1) passed final end ends
waits_by old new final left n passed kept turn.NoMemory end is ends l = none_waits link.NoMemory n passed final end ends

-- a turn after which a link goes on
pub replied_by : (old new : LinkState) (left n passed : ℕ) (kept : List ℕ) (t : Turn) → TurnIs left old new kept t → end_by n passed t ≡ None → Replied left old new false
replied_by old new left n passed kept turn.Next is ends = is
replied_by old new left n passed kept turn.Closed is ends = absurd (cc)
replied_by old new left n passed kept turn.PutOff is ends = absurd (cc)
replied_by old new left n passed kept turn.End is ends = absurd (cc)
replied_by old new left n passed kept (turn.CutShort size) is ends = absurd (cc)
replied_by old new left n passed kept (turn.Bad kind number) is ends = absurd (cc)
replied_by old new left n passed kept turn.ReadFault is ends = absurd (cc)
replied_by old new left n passed kept turn.ReplyFault is ends = absurd (cc)
replied_by old new left n passed kept (turn.RefusalFault kind number) is ends = absurd (cc)
replied_by old new left n passed kept turn.DiskFault is ends = absurd (cc)
replied_by old new left n passed kept turn.NoMemory is ends = absurd (cc)

-- a turn that no disk failed in
pub went_on : (n passed : ℕ) (t : Turn) (P : Type 0) → (t ≡ turn.DiskFault) ⊎ P → end_by n passed t ≡ None → P
went_on n passed t P (inl fault) ends = absurd (cc)
went_on n passed t P (inr is) ends = is

pub ended_well : (n passed : ℕ) (t : Turn) (end : LinkEnd) (P : Type 0) → (t ≡ turn.DiskFault) ⊎ P → end_by n passed t ≡ Some end → IsGoing end.status → P
ended_well n passed t end P (inl fault) ends going =
    absurd (going (let same : Some (record { status = link.DiskFault; requests = n + 1; passed = passed; put_off = false }) ≡ Some end = subst (λ v. end_by n passed v ≡ Some end) fault ends in cc))
ended_well n passed t end P (inr is) ends going = is

-- one turn more
pub due_later : (first old new : DurableMachine) (before passed : ℕ) → PassedIfDue first old before → before ≤ passed → PassedIfDue old new passed
    → PassedIfDue first new passed
due_later first old new before passed earlier later now due = or_before (now due)
  where
    or_first : (0 < before) ⊎ (IsDue first.journal × (accepted old.machine ≡ accepted first.machine)) → accepted new.machine ≡ accepted old.machine
        → (0 < passed) ⊎ (IsDue first.journal × (accepted new.machine ≡ accepted first.machine))
    or_first (inl some) same = inl (omega (arith, some, later))
    or_first (inr (is, was)) same = inr (is, same ∙ was)

    or_before : (0 < passed) ⊎ (IsDue old.journal × (accepted new.machine ≡ accepted old.machine)) → (0 < passed) ⊎ (IsDue first.journal × (accepted new.machine ≡ accepted first.machine))
    or_before (inl some) = inl some
    or_before (inr (is, same)) = or_first (earlier is) same
