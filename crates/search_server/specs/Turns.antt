-- One turn of a link: one request and its reply.
use Rattle.std.specs.Prelude.{◌≡◌, ◌≢◌, ◌⊎◌, ◌<◌, ◌≤◌, ◌+◌, ℕ, Bool, true, false, List, Option, Some, None, IfSome, [], length}
use Rattle.std.specs.Io.KnownBytes.{append_known}
use Rattle.outside_io.specs.Faults.{Rose}
use Rattle.http_wire.specs.Stream.{IsPart, IsBad, IsOpen}
use Rattle.http_wire.specs.Head.{IsBlank}
use Rattle.http_wire.specs.Stops.{TakesFront}
use Rattle.http_wire.specs.Reply.{wire, refusal_answer, WrotePart}
use Rattle.bucket_sort.specs.Opens.{Opens}
use Rattle.queued_changes.specs.Machine.{run_out}
use Rattle.named_indexes.specs.Changes.{changed}
use Rattle.search_routes.specs.Chosen.{Event, state_after}
use Rattle.search_routes.specs.Openings.{opened_by, most_opened_by}
use Rattle.durable_machine.specs.Durable.{CrashHolds}
use Rattle.search_server.specs.LinkState.{LinkState}
use Rattle.search_server.specs.Run.{behind_event, event_need, reply_to}
use Rattle.search_server.specs.Statuses.{DiskRose}
use Rattle.search_server.specs.declared.status.LinkEnd.{LinkEnd}
use Rattle.search_server.specs.declared.status.Status.{Status}
use Rattle.search_server.specs.declared.status.Status.TheVariants as link
use Rattle.search_server.specs.declared.turn.Turn.{Turn}
use Rattle.search_server.specs.declared.turn.Turn.TheVariants.{Next, Closed, PutOff, End, CutShort, Bad, ReadFault, ReplyFault, RefusalFault, DiskFault, NoMemory}

-- A request was taken, and no more was read and opened for it than it needs, with the batch behind its reply.
pub record Taken (old new : LinkState) (e : Event) : Type 0 where
  pub takes : TakesFront old.pending e.request new.pending
  pub fetched : new.fetches ≤ old.fetches + event_need old.state e
  pub opens : Opens e.starved (opened_by old.state e.request) old.log new.log
  pub few : new.log.opened ≤ old.log.opened + most_opened_by old.state e.request

-- its reply was written, and the batch behind it ran
pub record Replied (left : ℕ) (old new : LinkState) (closes : Bool) : Type 0 where
  pub event : Event
  pub taken : Taken old new event
  pub told : new.told ≡ append_known old.told (reply_to left old.state event)
  pub state : new.state ≡ behind_event old.state event
  pub closes_is : event.request.closes ≡ closes

-- its reply was written, and the batch behind it found no memory
pub record NotFollowed (left : ℕ) (old new : LinkState) : Type 0 where
  pub event : Event
  pub taken : Taken old new event
  pub told : new.told ≡ append_known old.told (reply_to left old.state event)
  pub state : new.state ≡ state_after old.state event.request event.starved
  pub waits : new.state.queue ≢ []

-- a part of its reply was written
pub record ReplyCut (left : ℕ) (old new : LinkState) : Type 0 where
  pub event : Event
  pub taken : Taken old new event
  pub told : WrotePart old.told new.told (reply_to left old.state event)
  pub state : new.state ≡ state_after old.state event.request event.starved

-- Nothing was written, since a disk failed: what a crash may leave holds the tasks from before the request, or these
-- and its own.
pub record NotRecorded (old new : LinkState) : Type 0 where
  pub event : Event
  pub taken : Taken old new event
  pub told : new.told ≡ old.told
  pub crash : CrashHolds new.disk_a.contents new.disk_b.contents
      (λ t. (t ≡ run_out changed old.state) ⊎ (t ≡ run_out changed (state_after old.state event.request false)))

-- no request was taken
pub record NoneTaken (old new : LinkState) : Type 0 where
  pub pending : new.pending ≡ old.pending
  pub state : new.state ≡ old.state
  pub fetches : new.fetches ≡ old.fetches
  pub log : new.log ≡ old.log

-- and nothing was written
pub record Quiet (old new : LinkState) : Type 0 where
  pub none : NoneTaken old new
  pub told : new.told ≡ old.told

-- what a turn did, where so many requests may still come, and what it keeps of the bytes that were read
abbrev pub TurnIs : ℕ → LinkState → LinkState → List ℕ → Turn → Type 0
TurnIs left old new kept Next = Replied left old new false
TurnIs left old new kept Closed = Replied left old new true
TurnIs left old new kept PutOff = NotFollowed left old new
TurnIs left old new kept End = Quiet old new × IfSome old.pending IsBlank
TurnIs left old new kept (CutShort n) = Quiet old new × (0 < n) × IfSome old.pending (λ xs. IsPart xs × (n ≡ length xs))
TurnIs left old new kept (Bad kind number) =
    NoneTaken old new × IfSome old.pending (λ xs. IsBad xs kind number)
    × (new.told ≡ append_known old.told (wire (refusal_answer kind) true))
TurnIs left old new kept ReadFault = Quiet old new × IsOpen kept × Rose old.read_faults new.read_faults
TurnIs left old new kept ReplyFault = ReplyCut left old new × Rose old.write_faults new.write_faults
TurnIs left old new kept (RefusalFault kind number) =
    NoneTaken old new × IfSome old.pending (λ xs. IsBad xs kind number)
    × WrotePart old.told new.told (wire (refusal_answer kind) true) × Rose old.write_faults new.write_faults
TurnIs left old new kept DiskFault = NotRecorded old new × DiskRose old.disk_a old.disk_b new.disk_a new.disk_b
TurnIs left old new kept NoMemory = Quiet old new

abbrev pub ended : Status → ℕ → ℕ → Option LinkEnd
ended status requests passed =
    Some (record { status = status; requests = requests; passed = passed; put_off = false })

-- how a link ends by a turn, where so many requests were read before it and so many checkpoints were passed over up to
-- now, if it does not go on
abbrev pub end_by : ℕ → ℕ → Turn → Option LinkEnd
end_by before passed Next = None
end_by before passed Closed = ended link.Done (before + 1) passed
end_by before passed PutOff =
    Some (record { status = link.NoMemory; requests = before + 1; passed = passed; put_off = true })
end_by before passed End = ended link.Done before passed
end_by before passed (CutShort size) = ended (link.CutShort size) before passed
end_by before passed (Bad kind number) = ended (link.BadHead kind number) before passed
end_by before passed ReadFault = ended link.ReadFault before passed
end_by before passed ReplyFault = ended link.WriteFault (before + 1) passed
end_by before passed (RefusalFault kind number) = ended link.WriteFault before passed
end_by before passed DiskFault = ended link.DiskFault (before + 1) passed
end_by before passed NoMemory = ended link.NoMemory before passed
