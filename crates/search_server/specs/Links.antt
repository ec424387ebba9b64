-- Serving the links of a door, one after the other.
use Rattle.std.specs.Prelude.{◌≡◌, ◌⊎◌, ℕ, ◌+◌, ◌≤◌, List, [], ◌∷◌, ◌++◌, length, map, Option, IfSome}
use Rattle.std.specs.Option.{option_map}
use Rattle.std.specs.Io.KnownBytes.{append_known}
use Rattle.outside_io.specs.Faults.{Rose}
use Rattle.http_wire.specs.Reply.{WrotePart}
use Rattle.search_server.specs.LinkState.{LinkState, Shared}
use Rattle.search_server.specs.Served.{Serves, join}
use Rattle.search_server.specs.Lines.{link_line}
use Rattle.search_server.specs.Statuses.{DiskRose, IsGoing}
use Rattle.search_server.specs.declared.status.LinkEnd.{LinkEnd}
use Rattle.search_server.specs.declared.status.Status.{Status}
use Rattle.search_server.specs.declared.status.Status.TheVariants.{Done, BadWords, ReadFault, WriteFault, DoorFault, DiskFault, Damaged, CutShort, BadHead, RequestsSpent, NoMemory}

-- a link as the door gave it and as it was given back, with what links share behind it, and its end
pub record Visit (L : Type 0) : Type 0 where
  pub taken : L
  pub given : L
  pub behind : Shared
  pub end : LinkEnd

-- what links share behind these visits
abbrev pub shared_behind : {L : Type 0} → Shared → List (Visit L) → Shared
shared_behind s [] = s
shared_behind s (v ∷ vs) = shared_behind v.behind vs

-- each link is served, by the wire promise, from what the one before left; `at` says what serving a link finds where
-- links share this
abbrev pub AreServed : {L : Type 0} → (L → Shared → LinkState) → Shared → List (Visit L) → Type 0
AreServed at s [] = Unit {0}
AreServed at s (v ∷ vs) = Serves (at v.taken s) (at v.given v.behind) v.end × AreServed at v.behind vs

-- no disk failed
abbrev pub AllGoing : {L : Type 0} → List (Visit L) → Type 0
AllGoing [] = Unit {0}
AllGoing (v ∷ vs) = IsGoing v.end.status × AllGoing vs

-- a line for each link, numbered from this number on
abbrev pub lines_from : {L : Type 0} → ℕ → List (Visit L) → List (List ℕ)
lines_from number [] = []
lines_from number (v ∷ vs) = link_line number v.end ∷ lines_from (number + 1) vs

-- what serving links finds: what they share; the links that come and those that were given back, where the door tells
-- them; what was written to the pipe, where it tells that; and how often the door failed, and writing to the pipe
pub record DoorState (L : Type 0) : Type 0 where
  pub shared : Shared
  pub coming : Option (List L)
  pub returned : Option (List L)
  pub told : Option (List ℕ)
  pub door_faults : ℕ
  pub write_faults : ℕ

-- by what the door and the pipe tell
abbrev pub door_state : {L D P : Type 0} → (D → Option (List L)) → (D → Option (List L)) → (D → ℕ)
    → (P → Option (List ℕ)) → (P → ℕ) → D → P → Shared → DoorState L
door_state coming returned door_faults told write_faults door pipe shared = record {
  shared = shared;
  coming = coming door;
  returned = returned door;
  told = told pipe;
  door_faults = door_faults door;
  write_faults = write_faults pipe;
}

-- These links were taken in their order, and each was given back once.
pub record Visited {L : Type 0} (at : L → Shared → LinkState) (old new : DoorState L) (visits : List (Visit L))
    : Type 0 where
  pub served : AreServed at old.shared visits
  pub shared : new.shared ≡ shared_behind old.shared visits
  pub coming : old.coming ≡ option_map (λ ls. map (λ v. v.taken) visits ++ ls) new.coming
  pub returned : new.returned ≡ option_map (λ ls. ls ++ map (λ v. v.given) visits) old.returned

-- the line of each link is written
abbrev pub AllTold : {L : Type 0} → DoorState L → DoorState L → List (Visit L) → Type 0
AllTold old new visits = new.told ≡ append_known old.told (join (lines_from 1 visits))

-- all lines but the last are written, and of the last not all bytes, maybe none
pub record CutTold {L : Type 0} (old new : DoorState L) (visits : List (Visit L)) : Type 0 where
  pub front : List (List ℕ)
  pub last : List ℕ
  pub lines : lines_from 1 visits ≡ front ++ last ∷ []
  pub told : WrotePart (append_known old.told (join front)) new.told last

-- a disk failed while the last link was served: the line of each before it is written, and none for it
pub record NotTold {L : Type 0} (old new : DoorState L) (visits : List (Visit L)) : Type 0 where
  pub front : List (Visit L)
  pub last : Visit L
  pub all : visits ≡ front ++ last ∷ []
  pub going : AllGoing front
  pub failed : last.end.status ≡ DiskFault
  pub told : AllTold old new front

-- no link comes any more, where the door tells that
abbrev pub NoneComes : {L : Type 0} → DoorState L → Type 0
NoneComes s = IfSome s.coming (λ ls. ls ≡ [])

-- how it ends, where so many links were to be served
abbrev pub EndsBy : {L : Type 0} → ℕ → DoorState L → DoorState L → List (Visit L) → Status → Type 0
EndsBy connections old new visits Done =
    AllGoing visits × AllTold old new visits × ((length visits ≡ connections) ⊎ NoneComes new)
EndsBy connections old new visits DoorFault =
    AllGoing visits × AllTold old new visits × Rose old.door_faults new.door_faults
EndsBy connections old new visits WriteFault =
    AllGoing visits × CutTold old new visits × Rose old.write_faults new.write_faults
EndsBy connections old new visits DiskFault =
    NotTold old new visits × DiskRose old.shared.disk_a old.shared.disk_b new.shared.disk_a new.shared.disk_b
EndsBy connections old new visits BadWords = ⊥
EndsBy connections old new visits ReadFault = ⊥
EndsBy connections old new visits (Damaged disk place found) = ⊥
EndsBy connections old new visits (CutShort size) = ⊥
EndsBy connections old new visits (BadHead kind number) = ⊥
EndsBy connections old new visits RequestsSpent = ⊥
EndsBy connections old new visits NoMemory = ⊥

-- The promise of serving at most so many links of a door.
pub record ServesDoor {L : Type 0} (at : L → Shared → LinkState) (connections : ℕ) (old new : DoorState L)
    (status : Status) : Type 0 where
  pub visits : List (Visit L)
  pub visited : Visited at old new visits
  pub few : length visits ≤ connections
  pub ends : EndsBy connections old new visits status
