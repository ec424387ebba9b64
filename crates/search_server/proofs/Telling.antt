-- What tells goes on telling.
use Rattle.std.proofs.Common.{◌≡◌, inl, inr, ℕ, true, List, take, Option, Some, None, Result, Ok, Err, refl, sym, ap, ◌∙◌}
use Rattle.std.specs.Prelude.{is_some, OnOk, OnErr}
use Rattle.std.specs.Option.{option_map}
use Rattle.std.specs.Io.KnownBytes.{append_known, prepend_known}
use Rattle.outside_io.specs.Bytes.{Reads, Writes}
use Rattle.outside_io.specs.Disks.{Contents, MayHave}
use Rattle.outside_io.specs.declared.link.Failed.{Failed}
use Rattle.http_wire.specs.Reply.{WrotePart, wire, refusal_answer}
use Rattle.search_server.specs.LinkState.{LinkState, Shared}
use Rattle.search_server.specs.Demo.{PipeState, Printed}
use Rattle.search_server.specs.Links.{DoorState, Visit, lines_from, AllTold, EndsBy, ServesDoor}
use Rattle.search_server.specs.Run.{reply_to}
use Rattle.search_server.specs.Served.{join}
use Rattle.search_server.specs.Telling.{GoesOnTelling, LinkGoesOnTelling}
use Rattle.search_server.specs.Turns.{Quiet, TurnIs}
use Rattle.search_server.specs.declared.status.Status.{Status}
use Rattle.search_server.specs.declared.status.Status.TheVariants as ended
use Rattle.search_server.specs.declared.turn.Turn.{Turn}
use Rattle.search_server.specs.declared.turn.Turn.TheVariants.{Next, Closed, PutOff, End, CutShort, Bad, ReadFault, ReplyFault, RefusalFault, DiskFault, NoMemory}

-- ---- bytes behind those that are told, or before them

mapped : {A : Type 0} (f : A → A) (o : Option A) → is_some (option_map f o) ≡ is_some o
mapped f None = refl
mapped f (Some x) = refl

pub told_mapped : {A : Type 0} (f : A → A) (o p : Option A) → p ≡ option_map f o → GoesOnTelling o p
told_mapped f o p e = ap is_some e ∙ mapped f o

pub told_appended : (o p : Option (List ℕ)) (bytes : List ℕ) → p ≡ append_known o bytes → GoesOnTelling o p
told_appended None p bytes e = ap is_some e
told_appended (Some xs) p bytes e = ap is_some e

pub told_part : (o p : Option (List ℕ)) (whole : List ℕ) → WrotePart o p whole → GoesOnTelling o p
told_part o p whole is = told_appended o p (take is.0 whole) is.2

prepended : (front : List ℕ) (o : Option (List ℕ)) → is_some (prepend_known front o) ≡ is_some o
prepended front None = refl
prepended front (Some xs) = refl

pub told_prepended : (front : List ℕ) (o p : Option (List ℕ)) → o ≡ prepend_known front p → GoesOnTelling o p
told_prepended front o p e = sym (ap is_some e ∙ prepended front p)

-- the same without the bytes that are kept
pub without_kept : (k l : List ℕ) (o p : Option (List ℕ)) → GoesOnTelling (prepend_known k o) (prepend_known l p) → GoesOnTelling o p
without_kept k l o p is = sym (prepended l p) ∙ is ∙ prepended k o

-- ---- calls of a link and of a disk

pub reads_tell : (before after : Option (List ℕ)) (result : Result ℕ Failed) (into : List ℕ) → Reads before after result into → GoesOnTelling before after
reads_tell before after (Ok n) into is = told_prepended (take n into) before after is.1
reads_tell before after (Err failed) into is = ap is_some is

pub writes_tell : (before after : Option (List ℕ)) (result : Result ℕ Failed) (piece : List ℕ) → Writes before after result piece → GoesOnTelling before after
writes_tell before after (Ok n) piece is = told_appended before after (take n piece) is.2
writes_tell before after (Err failed) piece is = ap is_some is

pub disks_tell : (before after : Option Contents) (result : Result (Unit {0}) Failed) (done failed : Contents → Contents) → OnOk result (after ≡ option_map done before) → OnErr result (MayHave failed before after)
    → GoesOnTelling before after
disks_tell before after (Ok u) done failed ok err = told_mapped done before after ok
disks_tell before after (Err e) done failed ok (inl same) = ap is_some same
disks_tell before after (Err e) done failed ok (inr made) = told_mapped failed before after made

-- ---- a turn

quiet_tells : (old new : LinkState) → Quiet old new → LinkGoesOnTelling old new
quiet_tells old new is = (ap is_some is.none.pending, ap is_some is.told)

pub turn_tells : (left : ℕ) (old new : LinkState) (kept : List ℕ) (turn : Turn) → TurnIs left old new kept turn → LinkGoesOnTelling old new
turn_tells left old new kept Next is = (told_prepended is.taken.takes.0 old.pending new.pending is.taken.takes.1, told_appended old.told new.told (reply_to left old.state is.event) is.told)
turn_tells left old new kept Closed is = (told_prepended is.taken.takes.0 old.pending new.pending is.taken.takes.1, told_appended old.told new.told (reply_to left old.state is.event) is.told)
turn_tells left old new kept PutOff is = (told_prepended is.taken.takes.0 old.pending new.pending is.taken.takes.1, told_appended old.told new.told (reply_to left old.state is.event) is.told)
turn_tells left old new kept End is = quiet_tells old new is.0
turn_tells left old new kept (CutShort n) is = quiet_tells old new is.0
turn_tells left old new kept (Bad kind number) is = (ap is_some is.0.pending, told_appended old.told new.told (wire (refusal_answer kind) true) is.2)
turn_tells left old new kept ReadFault is = quiet_tells old new is.0
turn_tells left old new kept ReplyFault is = (told_prepended is.0.taken.takes.0 old.pending new.pending is.0.taken.takes.1, told_part old.told new.told (reply_to left old.state is.0.event) is.0.told)
turn_tells left old new kept (RefusalFault kind number) is = (ap is_some is.0.pending, told_part old.told new.told (wire (refusal_answer kind) true) is.2)
turn_tells left old new kept DiskFault is = (told_prepended is.0.taken.takes.0 old.pending new.pending is.0.taken.takes.1, ap is_some is.0.told)
turn_tells left old new kept NoMemory is = quiet_tells old new is

-- ---- the pipe of a door, and of the demo

all_tell : {L : Type 0} (old new : DoorState L) (visits : List (Visit L)) → AllTold old new visits → GoesOnTelling old.told new.told
all_tell old new visits is = told_appended old.told new.told (join (lines_from 1 visits)) is

ends_tell : {L : Type 0} (connections : ℕ) (old new : DoorState L) (visits : List (Visit L)) (status : Status) → EndsBy connections old new visits status → GoesOnTelling old.told new.told
ends_tell connections old new visits ended.Done is = all_tell old new visits is.1
ends_tell connections old new visits ended.DoorFault is = all_tell old new visits is.1
ends_tell connections old new visits ended.WriteFault is =
    let front = join is.1.front in
    told_part (append_known old.told front) new.told is.1.last is.1.told ∙ told_appended old.told (append_known old.told front) front refl
ends_tell connections old new visits ended.DiskFault is = all_tell old new is.0.front is.0.told
ends_tell connections old new visits ended.BadWords is = absurd is
ends_tell connections old new visits ended.ReadFault is = absurd is
ends_tell connections old new visits (ended.Damaged disk place found) is = absurd is
ends_tell connections old new visits (ended.CutShort size) is = absurd is
ends_tell connections old new visits (ended.BadHead kind number) is = absurd is
ends_tell connections old new visits ended.RequestsSpent is = absurd is
ends_tell connections old new visits ended.NoMemory is = absurd is

pub door_tells : {L : Type 0} (at : L → Shared → LinkState) (connections : ℕ) (old new : DoorState L) (status : Status) → ServesDoor at connections old new status → GoesOnTelling old.told new.told
door_tells at connections old new status is = ends_tell connections old new is.visits status is.ends

pub demo_tells : (text : List ℕ) (old new : PipeState) (status : Status) → Printed text old new status → GoesOnTelling old.told new.told
demo_tells text old new ended.Done is = told_appended old.told new.told text is
demo_tells text old new ended.WriteFault is = told_part old.told new.told text is.0
demo_tells text old new ended.NoMemory is = ap is_some is
demo_tells text old new ended.BadWords is = absurd is
demo_tells text old new ended.ReadFault is = absurd is
demo_tells text old new ended.DoorFault is = absurd is
demo_tells text old new ended.DiskFault is = absurd is
demo_tells text old new (ended.Damaged disk place found) is = absurd is
demo_tells text old new (ended.CutShort size) is = absurd is
demo_tells text old new (ended.BadHead kind number) is = absurd is
demo_tells text old new ended.RequestsSpent is = absurd is
