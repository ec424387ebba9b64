-- From the calls of a turn to what it did.
use Rattle.std.proofs.Common.{◌≡◌, ◌≤◌, ◌+◌, ℕ, Bool, true, false, List, [], Option, refl, ap, sym, ◌∙◌, subst, arith}
use Rattle.std.specs.Prelude.{◌≢◌, ◌==◌, if◌then◌else◌}
use Rattle.std.specs.Io.KnownBytes.{append_known}
use Rattle.http_wire.specs.Stream.{Request}
use Rattle.http_wire.specs.Stops.{TakesFront}
use Rattle.http_wire.specs.Reply.{wire, WrotePart}
use Rattle.http_wire.specs.Sent.{sent, IsSentAs}
use Rattle.http_wire.specs.declared.reply.Reply.{Reply}
use Rattle.queued_changes.specs.Machine.{settle}
use Rattle.named_indexes.specs.Changes.{changed}
use Rattle.search_routes.specs.State.{State}
use Rattle.search_routes.specs.Machine.{step}
use Rattle.search_routes.specs.Chosen.{answer_of, state_after, is_followed, followed}
use Rattle.search_routes.specs.Needs.{needed_fetches, batch_need, follow_need}
use Rattle.search_routes.specs.Openings.{opened_by, most_opened_by}
use Rattle.bucket_sort.specs.Opens.{Opens}
use Rattle.search_server.specs.LinkState.{LinkState}
use Rattle.search_server.specs.Run.{says_close, reply_to}
use Rattle.search_server.specs.Turns.{Taken, Replied, NotFollowed, ReplyCut}

-- what an answer says, where it came to a reply: the machine behind it, and whether a batch follows
abbrev pub Performed : LinkState → Request → LinkState → State → Reply → Bool → Type 0
Performed old q new answered reply follows = (starved : Bool)
    × ((answered ≡ state_after old.state q starved) × IsSentAs reply (answer_of old.state q starved) × (follows ≡ is_followed old.state q starved))
    × Opens starved (opened_by old.state q) old.log new.log

-- the batch behind a reply
abbrev pub settled_if : Bool → State → State
settled_if follows s = if follows then settle changed s else s

abbrev pub need_if : Bool → State → ℕ
need_if follows s = if follows then batch_need s else 0

-- how much it read and opened at most, with the batch
pub record IsFew (old new : LinkState) (q : Request) (answered : State) (follows : Bool) : Type 0 where
  pub fetched : new.fetches ≤ old.fetches + needed_fetches old.state q + need_if follows answered
  pub opened : new.log.opened ≤ old.log.opened + most_opened_by old.state q

behind_reply : (s : State) (q : Request) (starved : Bool) → settled_if (is_followed s q starved) (state_after s q starved) ≡ followed s q starved
behind_reply s q true = refl
behind_reply s q false = by_status ((step s q).answer.status == 202)
  where
    by_status : (b : Bool) → settled_if (if b then false else true) (step s q).state ≡ (if b then (step s q).state else settle changed (step s q).state)
    by_status true = refl
    by_status false = refl

need_behind : (s : State) (q : Request) (starved : Bool) → need_if (is_followed s q starved) (state_after s q starved) ≡ follow_need s q starved
need_behind s q true = refl
need_behind s q false = by_status ((step s q).answer.status == 202)
  where
    by_status : (b : Bool) → need_if (if b then false else true) (step s q).state ≡ (if b then 0 else batch_need (step s q).state)
    by_status true = refl
    by_status false = refl

-- the machine as the next request finds it
behind_answer : (s : State) (q : Request) (starved follows : Bool) (answered : State) → answered ≡ state_after s q starved → follows ≡ is_followed s q starved
    → settled_if follows answered ≡ followed s q starved
behind_answer s q starved follows answered at is =
    ap (λ b. settled_if b answered) is ∙ ap (λ v. settled_if (is_followed s q starved) v) at ∙ behind_reply s q starved

need_of_batch : (s : State) (q : Request) (starved follows : Bool) (answered : State) → answered ≡ state_after s q starved → follows ≡ is_followed s q starved
    → need_if follows answered ≡ follow_need s q starved
need_of_batch s q starved follows answered at is =
    ap (λ b. need_if b answered) is ∙ ap (λ v. need_if (is_followed s q starved) v) at ∙ need_behind s q starved

-- the bytes that are sent are the reply to the event
sent_reply : (left : ℕ) (old : LinkState) (q : Request) (reply : Reply) (starved says : Bool) → IsSentAs reply (answer_of old.state q starved)
    → says ≡ says_close left q → sent reply says ≡ reply_to left old.state (record { request = q; starved = starved })
sent_reply left old q reply starved says is e = is.each says ∙ ap (λ v. wire (answer_of old.state q starved) v) e

-- `pending` are the bytes from behind the request
taken : (old new : LinkState) (q : Request) (reply : Reply) (follows : Bool) (answered : State) (pending : Option (List ℕ))
    → (p : Performed old q new answered reply follows) → IsFew old new q answered follows → TakesFront old.pending q pending → new.pending ≡ pending
    → Taken old new (record { request = q; starved = p.0 })
taken old new q reply follows answered pending p few takes stays = record {
  takes = subst (λ v. TakesFront old.pending q v) (sym stays) takes;
  fetched = omega (arith, few.fetched, need_of_batch old.state q p.0 follows answered p.1.0 p.1.2);
  opens = p.2;
  few = few.opened;
}

-- `told` was written before the reply
pub record Sending (left : ℕ) (old : LinkState) (q : Request) (says : Bool) (told : Option (List ℕ)) : Type 0 where
  pub same : told ≡ old.told
  pub says_is : says ≡ says_close left q

written : (left : ℕ) (old new : LinkState) (q : Request) (reply : Reply) (starved says : Bool) (told : Option (List ℕ)) → IsSentAs reply (answer_of old.state q starved)
    → Sending left old q says told → new.told ≡ append_known told (sent reply says) → new.told ≡ append_known old.told (reply_to left old.state (record { request = q; starved = starved }))
written left old new q reply starved says told is s at =
    subst (λ v. new.told ≡ append_known old.told v) (sent_reply left old q reply starved says is s.says_is)
    (subst (λ v. new.told ≡ append_known v (sent reply says)) s.same at)

pub turn_replied : (left : ℕ) (old new : LinkState) (q : Request) (reply : Reply) (says closes follows : Bool) (answered : State) (pending told : Option (List ℕ))
    → Performed old q new answered reply follows → IsFew old new q answered follows → TakesFront old.pending q pending → new.pending ≡ pending
    → Sending left old q says told → new.told ≡ append_known told (sent reply says) → new.state ≡ settled_if follows answered → q.closes ≡ closes
    → Replied left old new closes
turn_replied left old new q reply says closes follows answered pending told p few takes stays sending at ran is = record {
  event = record { request = q; starved = p.0 };
  taken = taken old new q reply follows answered pending p few takes stays;
  told = written left old new q reply p.0 says told p.1.1 sending at;
  state = ran ∙ behind_answer old.state q p.0 follows answered p.1.0 p.1.2;
  closes_is = is;
}

pub turn_put_off : (left : ℕ) (old new : LinkState) (q : Request) (reply : Reply) (says follows : Bool) (answered : State) (pending told : Option (List ℕ))
    → Performed old q new answered reply follows → IsFew old new q answered follows → TakesFront old.pending q pending → new.pending ≡ pending
    → Sending left old q says told → new.told ≡ append_known told (sent reply says) → new.state ≡ answered → answered.queue ≢ []
    → NotFollowed left old new
turn_put_off left old new q reply says follows answered pending told p few takes stays sending at same some = record {
  event = record { request = q; starved = p.0 };
  taken = taken old new q reply follows answered pending p few takes stays;
  told = written left old new q reply p.0 says told p.1.1 sending at;
  state = same ∙ p.1.0;
  waits = λ none. some (sym (ap (λ (s : State). s.queue) same) ∙ none);
}

pub turn_cut : (left : ℕ) (old new : LinkState) (q : Request) (reply : Reply) (says follows : Bool) (pending told : Option (List ℕ))
    → Performed old q new new.state reply follows → IsFew old new q new.state follows → TakesFront old.pending q pending → new.pending ≡ pending
    → Sending left old q says told → WrotePart told new.told (sent reply says)
    → ReplyCut left old new
turn_cut left old new q reply says follows pending told p few takes stays sending part = record {
  event = record { request = q; starved = p.0 };
  taken = taken old new q reply follows new.state pending p few takes stays;
  told = subst (λ v. WrotePart old.told new.told v) (sent_reply left old q reply p.0 says p.1.1 sending.says_is)
      (subst (λ v. WrotePart v new.told (sent reply says)) sending.same part);
  state = p.1.0;
}
