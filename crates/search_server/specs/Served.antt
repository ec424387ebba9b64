-- What serving a link did: the wire promise, by the status with which the link ended.
--
-- `bytes` are those that the link had left, `old` is what serving found and `new` what it left, and `n` is the number
-- of whole requests that were read.
use Rattle.std.specs.Prelude.{◌≡◌, ◌≢◌, ◌⊎◌, ◌≤◌, ◌+◌, ℕ, Bool, true, false, List, [], ◌∷◌, ◌++◌, length, Some}
use Rattle.std.specs.List.{flat_map}
use Rattle.std.specs.Io.KnownBytes.{append_known}
use Rattle.http_wire.specs.Stream.{Stream, End, between, closed, spent, rest, bad, fresh, most_requests, Follows, Ends, Requests}
use Rattle.http_wire.specs.Reply.{wire, refusal_answer, WrotePart}
use Rattle.http_wire.specs.declared.HeadKind.{HeadKind}
use Rattle.queued_changes.specs.Machine.{run_out}
use Rattle.named_indexes.specs.Changes.{changed}
use Rattle.search_routes.specs.State.{State}
use Rattle.search_routes.specs.Chosen.{Event, EndsIn, after, state_after}
use Rattle.durable_machine.specs.Durable.{CrashHolds}
use Rattle.search_server.specs.LinkState.{LinkState}
use Rattle.search_server.specs.Run.{requests_of, replies, needs, written, Logs, most_over}
use Rattle.search_server.specs.Statuses.{IsCaused, IsGoing}
use Rattle.search_server.specs.Telling.{LinkGoesOnTelling}
use Rattle.search_server.specs.declared.status.LinkEnd.{LinkEnd}
use Rattle.search_server.specs.declared.status.Status.{Status}
use Rattle.search_server.specs.declared.status.Status.TheVariants.{Done, BadWords, ReadFault, WriteFault, DoorFault, DiskFault, Damaged, CutShort, BadHead, RequestsSpent, NoMemory}

-- pieces one after the other
abbrev pub join : List (List ℕ) → List ℕ
join pieces = flat_map (λ piece. piece) pieces

-- So many requests were answered: no more documents were read than they and the batches behind their replies need; and
-- the log was told the buckets that they open, of which there are so many at most.
pub record Spends (old new : LinkState) (n : ℕ) (events : List Event) : Type 0 where
  pub fetched : new.fetches ≤ old.fetches + needs old.state events
  pub logged : Logs old.state events old.log new.log
  pub opened : new.log.opened ≤ old.log.opened + most_over old.state events
  pub count : n ≡ length events

-- The machine went through these events. With the mark the batch behind the last reply did not run.
pub record Went (old new : LinkState) (n : ℕ) (mark : Bool) (events : List Event) : Type 0 where
  pub ends : EndsIn mark old.state events new.state
  pub spends : Spends old new n events

-- The requests in the bytes end so, and all that the run writes for them is written.
pub record Answers (bytes : List ℕ) (old new : LinkState) (n : ℕ) (end : End) : Type 0 where
  pub events : List Event
  pub went : Went old new n false events
  pub requests : Requests bytes (requests_of events) end
  pub told : new.told ≡ append_known old.told (join (written old.state events end))

-- The first requests in the bytes were read, and their replies are written.
pub record FirstAnswers (bytes : List ℕ) (old new : LinkState) (n : ℕ) (mark : Bool) : Type 0 where
  pub events : List Event
  pub went : Went old new n mark events
  pub stream : Stream
  pub follows : Follows (fresh bytes) (requests_of events) stream
  pub told : new.told ≡ append_known old.told (join (replies most_requests old.state events))

-- With the mark these are all replies to the requests so far, and without it there is behind them that to the head that
-- follows, which is refused.
abbrev pub Outputs : Bool → Stream → State → List Event → List (List ℕ) → Type 0
Outputs true stream s events all = all ≡ replies most_requests s events
Outputs false stream s events all =
    (kind : HeadKind) × (number : ℕ) × Ends stream (bad kind number)
    × (all ≡ replies most_requests s events ++ wire (refusal_answer kind) true ∷ [])

-- All replies but the last are written, and of the last not all bytes, maybe none. The batch behind a reply runs only
-- once that is written whole; so the mark says whether the last one is to a request.
pub record CutAnswers (bytes : List ℕ) (old new : LinkState) (n : ℕ) : Type 0 where
  pub mark : Bool
  pub events : List Event
  pub went : Went old new n mark events
  pub stream : Stream
  pub follows : Follows (fresh bytes) (requests_of events) stream
  pub front : List (List ℕ)
  pub last : List ℕ
  pub outputs : Outputs mark stream old.state events (front ++ last ∷ [])
  pub told : WrotePart (append_known old.told (join front)) new.told last

-- the ends of a link that is done
abbrev pub IsDone : End → Type 0
IsDone end = (end ≡ between) ⊎ (end ≡ closed)

-- the ends of bytes after which more may come
abbrev pub IsUnfinished : End → Type 0
IsUnfinished end = (end ≡ between) ⊎ ((n : ℕ) × (end ≡ rest n))

-- The link gave a front of the bytes, and the replies to all requests in that front are written.
pub record GivenAnswers (bytes : List ℕ) (old new : LinkState) (n : ℕ) : Type 0 where
  pub given : List ℕ
  pub more : List ℕ
  pub all : bytes ≡ given ++ more
  pub left : new.pending ≡ Some more
  pub end : End
  pub unfinished : IsUnfinished end
  pub answers : Answers given old new n end

-- A disk failed at the last request: the replies to all before it are written, and no byte of its own. Whatever a crash
-- may now leave on the disks holds the tasks that were accepted before that request, or these and its own.
pub record Unrecorded (bytes : List ℕ) (old new : LinkState) (n : ℕ) : Type 0 where
  pub front : List Event
  pub last : Event
  pub spends : Spends old new n (front ++ last ∷ [])
  pub stream : Stream
  pub follows : Follows (fresh bytes) (requests_of (front ++ last ∷ [])) stream
  pub told : new.told ≡ append_known old.told (join (replies most_requests old.state front))
  pub crash : CrashHolds new.disk_a.contents new.disk_b.contents
      (λ t. (t ≡ run_out changed (after old.state front))
      ⊎ (t ≡ run_out changed (state_after (after old.state front) last.request false)))

-- what was written, where the link tells its bytes, by the status and by whether a batch was put off
abbrev pub Served : List ℕ → LinkState → LinkState → ℕ → Bool → Status → Type 0
Served bytes old new n put_off Done = (end : End) × IsDone end × Answers bytes old new n end
Served bytes old new n put_off BadWords = ⊥
Served bytes old new n put_off DoorFault = ⊥
Served bytes old new n put_off DiskFault = Unrecorded bytes old new n
Served bytes old new n put_off (Damaged disk place found) = ⊥
Served bytes old new n put_off (CutShort size) = Answers bytes old new n (rest size)
Served bytes old new n put_off (BadHead kind number) = Answers bytes old new n (bad kind number)
Served bytes old new n put_off RequestsSpent = Answers bytes old new n spent
Served bytes old new n put_off ReadFault = GivenAnswers bytes old new n
Served bytes old new n put_off WriteFault = CutAnswers bytes old new n
Served bytes old new n put_off NoMemory = FirstAnswers bytes old new n put_off

-- The wire promise. Whether the link tells its bytes or not, it goes on so, and ends with a cause; and where no disk
-- failed, whatever a crash may now leave on the disks holds all tasks that were accepted, each of which stood there
-- before its reply was begun. A batch is put off only for want of memory, and a task waits then.
pub record Serves (old new : LinkState) (end : LinkEnd) : Type 0 where
  pub promise : (bytes : List ℕ) → old.pending ≡ Some bytes
      → Served bytes old new end.requests end.put_off end.status
  pub telling : LinkGoesOnTelling old new
  pub cause : IsCaused old new end.status
  pub crash : IsGoing end.status
      → CrashHolds new.disk_a.contents new.disk_b.contents (λ t. t ≡ run_out changed new.state)
  pub waits : end.put_off ≡ true → (end.status ≡ NoMemory) × (new.state.queue ≢ [])
