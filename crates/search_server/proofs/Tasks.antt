-- What becomes of the tasks that requests bring.
use Rattle.std.proofs.Common.{◌≡◌, Bool, true, false, List, [], ◌∷◌, ◌++◌, refl}
use Rattle.http_wire.specs.Stream.{Request}
use Rattle.queued_changes.specs.Machine.{run_out}
use Rattle.queued_changes.proofs.Requests.{ends}
use Rattle.named_indexes.specs.Changes.{changed}
use Rattle.search_routes.specs.State.{State}
use Rattle.search_routes.specs.Chosen.{Event, EndsIn, after, state_after, stepped}
use Rattle.search_routes.proofs.LawLemmas.{accepted_waits}
use Rattle.search_server.specs.Laws.{all_run}

pub not_lost : (mark : Bool) (s : State) (events : List Event) (t : State) → EndsIn mark s events t → run_out changed t ≡ all_run s events
not_lost mark s events t is = ends changed stepped accepted_waits mark s events t is

pub last_not_lost : (s : State) (front : List Event) (q : Request)
    → run_out changed (state_after (after s front) q false) ≡ all_run s (front ++ record { request = q; starved = false } ∷ [])
last_not_lost s front q =
    let last : Event = record { request = q; starved = false } in
    not_lost true s (front ++ last ∷ []) (state_after (after s front) q false) (front, last, refl, refl)
