-- Runs that go on by one request.
use Rattle.std.proofs.Common.{◌≡◌, ℕ, ◌+◌, ◌-◌, List, [], ◌∷◌, ◌++◌, length, Option, Some, None, refl, ap, sym, ◌∙◌, subst, arith}
use Rattle.std.specs.Io.KnownBytes.{prepend_known}
use Rattle.std.proofs.lemmas.List.{append_assoc}
use Rattle.http_wire.specs.Stream.{Request, Stream, Follows, Takes, IsAwake, after_request}
use Rattle.search_routes.specs.State.{State}
use Rattle.search_routes.specs.Chosen.{Event, after}
use Rattle.search_routes.specs.Openings.{opened_by, most_opened_by}
use Rattle.bucket_sort.specs.Opens.{LogState, Opens}
use Rattle.search_server.specs.Run.{requests_of, replies, reply_to, needs, event_need, Logs, most_over, behind_event}

-- one more request
pub follows_more : (s : Stream) (qs : List Request) (t : Stream) (q : Request) (rest : List ℕ)
    → Follows s qs t → IsAwake t → Takes t.bytes q rest → Follows s (qs ++ q ∷ []) (after_request t q rest)
follows_more s [] t q rest e awake takes =
    let P : Stream → Type 0 = λ v. IsAwake v × Takes v.bytes q rest × (after_request t q rest ≡ after_request v q rest) in
    let p : IsAwake s × Takes s.bytes q rest × (after_request t q rest ≡ after_request s q rest) = subst P e (awake, takes, refl) in
    (rest, p.0, p.1, p.2)
follows_more s (r ∷ qs) t q rest (rest', awake', takes', follows) awake takes =
    (rest', awake', takes', follows_more (after_request s r rest') qs t q rest follows awake takes)

pub replies_more : (left : ℕ) (s : State) (events : List Event) (e : Event)
    → replies left s (events ++ e ∷ []) ≡ replies left s events ++ reply_to (left - length events) (after s events) e ∷ []
replies_more left s [] e = ap (λ n. reply_to n s e ∷ []) (omega arith)
replies_more left s (f ∷ events) e =
    let n : left - 1 - length events ≡ left - length (f ∷ events) = omega arith in
    ap (λ v. reply_to left s f ∷ v)
    (replies_more (left - 1) (behind_event s f) events e
    ∙ ap (λ n. replies (left - 1) (behind_event s f) events ++ reply_to n (after (behind_event s f) events) e ∷ []) n)

pub after_more : (s : State) (events : List Event) (e : Event) → after s (events ++ e ∷ []) ≡ behind_event (after s events) e
after_more s [] e = refl
after_more s (f ∷ events) e = after_more (behind_event s f) events e

pub needs_more : (s : State) (events : List Event) (e : Event) → needs s (events ++ e ∷ []) ≡ needs s events + event_need (after s events) e
needs_more s [] e = omega arith
needs_more s (f ∷ events) e =
    let more = needs_more (behind_event s f) events e in
    omega (arith, more)

-- the log of one more event
pub logs_more : (s : State) (events : List Event) (e : Event) (old here new : LogState)
    → Logs s events old here → Opens e.starved (opened_by (after s events) e.request) here new → Logs s (events ++ e ∷ []) old new
logs_more s [] e old here new logs opens = (new, subst (λ v. Opens e.starved (opened_by s e.request) v new) logs opens, refl)
logs_more s (f ∷ events) e old here new (between, first, logs) opens =
    (between, first, logs_more (behind_event s f) events e between here new logs opens)

pub most_more : (s : State) (events : List Event) (e : Event) → most_over s (events ++ e ∷ []) ≡ most_over s events + most_opened_by (after s events) e.request
most_more s [] e = omega arith
most_more s (f ∷ events) e =
    let more = most_more (behind_event s f) events e in
    omega (arith, more)

pub requests_more : (events : List Event) (e : Event) → requests_of (events ++ e ∷ []) ≡ requests_of events ++ e.request ∷ []
requests_more [] e = refl
requests_more (f ∷ events) e = ap (λ v. f.request ∷ v) (requests_more events e)

-- known bytes of which the front is taken
pub known_rest : (rest front : List ℕ) (pending : Option (List ℕ)) → Some rest ≡ prepend_known front pending
    → (r : List ℕ) × (pending ≡ Some r) × (rest ≡ front ++ r)
known_rest rest front None e = absurd (cc)
known_rest rest front (Some r) e = (r, refl, cc)

-- the bytes up to those that are not yet given
pub given_of : (s t : Stream) (qs : List Request) (kept more : List ℕ) → Follows s qs t → t.bytes ≡ kept ++ more
    → (given : List ℕ) × (s.bytes ≡ given ++ more)
    × Follows (record { left = s.left; closed = s.closed; bytes = given }) qs (record { left = t.left; closed = t.closed; bytes = kept })
given_of s t [] kept more e at = (kept, ap (λ v. v.bytes) (sym e) ∙ at, ap (λ (v : Stream). record v { bytes = kept }) e)
given_of s t (q ∷ qs) kept more (rest, awake, (front, whole, is), follows) at =
    let (given, all, later) = given_of (after_request s q rest) t qs kept more follows at in
    (front ++ given, whole ∙ ap (λ v. front ++ v) all ∙ sym (append_assoc front given more), (given, awake, (front, refl, is), later))
