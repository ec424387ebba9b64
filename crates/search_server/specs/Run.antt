-- A run of the machine: requests one after the other, each of which may find no memory. Behind a reply that is neither
-- 202 nor the one for want of memory the oldest batch of tasks runs.
use Rattle.std.specs.Prelude.{◌≡◌, ℕ, ◌+◌, ◌-◌, ◌==◌, ◌||◌, Bool, true, List, [], ◌∷◌, ◌++◌, map}
use Rattle.http_wire.specs.Stream.{Request, End, between, closed, spent, rest, bad, most_requests}
use Rattle.http_wire.specs.Reply.{wire, refusal_answer}
use Rattle.search_routes.specs.State.{State}
use Rattle.search_routes.specs.Chosen.{Event, answer_of, followed}
use Rattle.bucket_sort.specs.Opens.{LogState, Opens}
use Rattle.search_routes.specs.Needs.{needed_fetches, follow_need}
use Rattle.search_routes.specs.Openings.{opened_by, most_opened_by}

-- the state as the next request finds it
abbrev pub behind_event : State → Event → State
behind_event s e = followed s e.request e.starved

abbrev pub requests_of : List Event → List Request
requests_of events = map (λ e. e.request) events

-- the reply says that the link closes where the request asks for that, or where it is the last of so many that may come
abbrev pub says_close : ℕ → Request → Bool
says_close left q = q.closes || left == 1

-- the reply to an event, where so many requests may still come, that one included
abbrev pub reply_to : ℕ → State → Event → List ℕ
reply_to left s e = wire (answer_of s e.request e.starved) (says_close left e.request)

-- the replies to a run of events, one after the other, where so many requests may still come
abbrev pub replies : ℕ → State → List Event → List (List ℕ)
replies left s [] = []
replies left s (e ∷ events) = reply_to left s e ∷ replies (left - 1) (behind_event s e) events

-- how many stored documents an event needs to read: those of the request, and those of the batch behind its reply
abbrev pub event_need : State → Event → ℕ
event_need s e = needed_fetches s e.request + follow_need s e.request e.starved

-- and a run
abbrev pub needs : State → List Event → ℕ
needs s [] = 0
needs s (e ∷ events) = event_need s e + needs (behind_event s e) events

-- the log over a run: each request in turn opens its buckets
abbrev pub Logs : State → List Event → LogState → LogState → Type 0
Logs s [] old new = new ≡ old
Logs s (e ∷ events) old new = (between : LogState) × Opens e.starved (opened_by s e.request) old between
    × Logs (behind_event s e) events between new

-- how many buckets a run opens at most
abbrev pub most_over : State → List Event → ℕ
most_over s [] = 0
most_over s (e ∷ events) = most_opened_by s e.request + most_over (behind_event s e) events

-- the reply to what ends a link, if there is one
abbrev pub end_replies : End → List (List ℕ)
end_replies (bad kind number) = wire (refusal_answer kind) true ∷ []
end_replies between = []
end_replies closed = []
end_replies spent = []
end_replies (rest n) = []

-- all that is written on a link, reply by reply
abbrev pub written : State → List Event → End → List (List ℕ)
written s events end = replies most_requests s events ++ end_replies end
