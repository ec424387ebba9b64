-- What holds of each run and each call. Which calls go on telling: each call of a link or a disk, by the clauses of its
-- trait, whether it fails or not; and each turn of a link. And what becomes of the tasks that requests bring.
use Rattle.std.specs.Prelude.{◌≡◌, ℕ, Bool, false, List, [], ◌∷◌, ◌++◌, Option, Result, OnOk, OnErr}
use Rattle.std.specs.Option.{option_map}
use Rattle.outside_io.specs.Bytes.{Reads, Writes}
use Rattle.outside_io.specs.Disks.{Contents, MayHave}
use Rattle.outside_io.specs.declared.link.Failed.{Failed}
use Rattle.http_wire.specs.Stream.{Request}
use Rattle.queued_changes.specs.Machine.{run_each, run_out}
use Rattle.queued_changes.specs.Run.{tasks_in}
use Rattle.named_indexes.specs.Changes.{changed}
use Rattle.search_routes.specs.State.{State}
use Rattle.search_routes.specs.Chosen.{Event, EndsIn, after, state_after, stepped}
use Rattle.search_server.specs.LinkState.{LinkState}
use Rattle.search_server.specs.Telling.{GoesOnTelling, LinkGoesOnTelling}
use Rattle.search_server.specs.Turns.{TurnIs}
use Rattle.search_server.specs.declared.turn.Turn.{Turn}

abbrev pub ReadsGoOnTelling : Type 0
ReadsGoOnTelling = (before after : Option (List ℕ)) (result : Result ℕ Failed) (into : List ℕ)
    → Reads before after result into → GoesOnTelling before after

abbrev pub WritesGoOnTelling : Type 0
WritesGoOnTelling = (before after : Option (List ℕ)) (result : Result ℕ Failed) (piece : List ℕ)
    → Writes before after result piece → GoesOnTelling before after

-- a write, a cut or a sync of a disk, by what it does where it is done, and may have done where it failed
abbrev pub DisksGoOnTelling : Type 0
DisksGoOnTelling = (before after : Option Contents) (result : Result (Unit {0}) Failed) (done failed : Contents → Contents)
    → OnOk result (after ≡ option_map done before) → OnErr result (MayHave failed before after)
    → GoesOnTelling before after

abbrev pub TurnsGoOnTelling : Type 0
TurnsGoOnTelling = (left : ℕ) (old new : LinkState) (kept : List ℕ) (turn : Turn)
    → TurnIs left old new kept turn → LinkGoesOnTelling old new

-- ---- tasks

-- What is left once each task has run, one after the other: those that wait in this state, and then those that the
-- requests bring.
abbrev pub all_run : State → List Event → State
all_run s events = run_each changed (tasks_in changed stepped s events) (run_out changed s)

-- a run leaves the tasks of all its requests, with the mark and without
abbrev pub NoTaskIsLost : Type 0
NoTaskIsLost = (mark : Bool) (s : State) (events : List Event) (t : State) → EndsIn mark s events t
    → run_out changed t ≡ all_run s events

-- and so does one whose last request was answered and has no reply
abbrev pub LastTaskIsNotLost : Type 0
LastTaskIsNotLost = (s : State) (front : List Event) (q : Request)
    → run_out changed (state_after (after s front) q false)
    ≡ all_run s (front ++ record { request = q; starved = false } ∷ [])
