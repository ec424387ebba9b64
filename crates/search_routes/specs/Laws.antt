-- What holds of the plain machine whatever the request.
use Rattle.std.specs.Prelude.{◌≡◌, ◌≢◌, ◌⊎◌, ◌+◌, List, map, zip, Ok}
use Rattle.serde_json.specs.Data.{Data}
use Rattle.http_wire.specs.Reply.{Answer}
use Rattle.http_wire.specs.Stream.{Request}
use Rattle.search_bodies.specs.MultiData.{MultiData}
use Rattle.request_calls.specs.Asked.{search, multi}
use Rattle.request_replies.specs.Replies as replies
use Rattle.queued_changes.specs.State.{accepted}
use Rattle.queued_changes.specs.Run.{IsStep}
use Rattle.named_indexes.specs.Changes.{changed}
use Rattle.search_routes.specs.State.{State}
use Rattle.search_routes.specs.Chosen.{stepped}
use Rattle.search_routes.specs.Machine.{Step, answer_to, step}

-- a change is accepted by 202 and counted, and no other reply comes with a change
abbrev pub IsCounted : State → Step → Type 0
IsCounted s t =
    ((t.answer.status ≡ 202) × (accepted t.state ≡ accepted s + 1)) ⊎ ((t.answer.status ≢ 202) × (t.state ≡ s))

abbrev pub AcceptedIsCounted : Type 0
AcceptedIsCounted = (s : State) (q : Request) → IsCounted s (step s q)

-- with a reply 202 the task of a change comes to wait, and with any other nothing changes
abbrev pub AcceptedWaits : Type 0
AcceptedWaits = IsStep changed stepped

-- several searches that are answered, each with the uid of its index: what they show, and that each of them alone is
-- answered with just that
pub record AreAnswered (s : State) (calls : List MultiData) (a : Answer) : Type 0 where
  pub shown : List Data
  pub alone : map (λ one. answer_to s (search one.uid one.call)) calls ≡ map (λ d. Ok (replies.answer 200 d)) shown
  pub together : a ≡ replies.results (map (λ p. replies.with_uid p.0.uid p.1) (zip calls shown))

abbrev pub EachIsAnsweredAlike : Type 0
EachIsAnsweredAlike = (s : State) (calls : List MultiData) (a : Answer) → answer_to s (multi calls) ≡ Ok a
    → AreAnswered s calls a

-- 503 is left to want of memory
abbrev pub NoneAnswers503 : Type 0
NoneAnswers503 = (s : State) (q : Request) → (step s q).answer.status ≢ 503
