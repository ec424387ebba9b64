-- The links that were served so far.
use Rattle.std.proofs.Common.{◌≡◌, ◌⊎◌, inl, inr, ℕ, ◌+◌, ◌<◌, ◌≤◌, List, [], ◌∷◌, ◌++◌, length, map, Option, Some, None, refl, ap, sym, ◌∙◌, subst, arith}
use Rattle.std.specs.Option.{option_map}
use Rattle.std.specs.Io.KnownBytes.{append_known}
use Rattle.std.proofs.lemmas.List.{append_assoc, append-nil, map-append, length-append}
use Rattle.outside_io.specs.Faults.{Rose}
use Rattle.http_wire.specs.Reply.{WrotePart}
use Rattle.std.proofs.lemmas.Grind.{flat_map-append}
use Rattle.search_server.specs.LinkState.{DiskState, LinkState, Shared}
use Rattle.search_server.specs.Served.{Serves, join}
use Rattle.search_server.specs.Lines.{link_line}
use Rattle.search_server.specs.Links.{Visit, DoorState, shared_behind, AreServed, AllGoing, lines_from, Visited, AllTold, NoneComes, EndsBy, ServesDoor}
use Rattle.search_server.specs.Statuses.{DiskRose, IsCaused, IsGoing}
use Rattle.search_server.specs.declared.status.LinkEnd.{LinkEnd}
use Rattle.search_server.specs.declared.status.Status.{Status}
use Rattle.search_server.specs.declared.status.Status.TheVariants as ended

-- so many links were visited, no disk failed, and the line of each is written
pub record Underway {L : Type 0} (at : L → Shared → LinkState) (n : ℕ) (old new : DoorState L) : Type 0 where
  pub visits : List (Visit L)
  pub visited : Visited at old new visits
  pub count : length visits ≡ n
  pub going : AllGoing visits
  pub told : AllTold old new visits

served_more : {L : Type 0} (at : L → Shared → LinkState) (s : Shared) (vs : List (Visit L)) (v : Visit L)
    → AreServed at s vs → Serves (at v.taken (shared_behind s vs)) (at v.given v.behind) v.end
    → AreServed at s (vs ++ v ∷ [])
served_more at s [] v all one = (one, tt)
served_more at s (u ∷ vs) v (first, all) one = (first, served_more at u.behind vs v all one)

shared_more : {L : Type 0} (s : Shared) (vs : List (Visit L)) (v : Visit L) → shared_behind s (vs ++ v ∷ []) ≡ v.behind
shared_more s [] v = refl
shared_more s (u ∷ vs) v = shared_more u.behind vs v

going_more : {L : Type 0} (vs : List (Visit L)) (v : Visit L) → AllGoing vs → IsGoing v.end.status → AllGoing (vs ++ v ∷ [])
going_more [] v all one = (one, tt)
going_more (u ∷ vs) v (first, all) one = (first, going_more vs v all one)

lines_more : {L : Type 0} (number : ℕ) (vs : List (Visit L)) (v : Visit L)
    → lines_from number (vs ++ v ∷ []) ≡ lines_from number vs ++ link_line (number + length vs) v.end ∷ []
lines_more number [] v = ap (λ k. link_line k v.end ∷ []) (omega arith)
lines_more number (u ∷ vs) v =
    ap (λ ls. link_line number u.end ∷ ls)
    (lines_more (number + 1) vs v ∙ ap (λ k. lines_from (number + 1) vs ++ link_line k v.end ∷ []) (omega arith))

known_append : (known : Option (List ℕ)) (a b : List ℕ) → append_known (append_known known a) b ≡ append_known known (a ++ b)
known_append None a b = refl
known_append (Some xs) a b = ap (λ (v : List ℕ). Some v) (append_assoc xs a b)

known_nil : (known : Option (List ℕ)) → known ≡ append_known known []
known_nil None = refl
known_nil (Some xs) = ap (λ (v : List ℕ). Some v) (sym (append-nil xs))

join_more : (pieces : List (List ℕ)) (piece : List ℕ) → join (pieces ++ piece ∷ []) ≡ join pieces ++ piece
join_more pieces piece =
    flat_map-append (λ (v : List ℕ). v) pieces (piece ∷ []) ∙ ap (λ v. join pieces ++ v) (append-nil piece)

coming_more : {L : Type 0} (old before after : Option (List L)) (vs : List (Visit L)) (v : Visit L)
    → old ≡ option_map (λ ls. map (λ u. u.taken) vs ++ ls) before → before ≡ option_map (λ ls. v.taken ∷ ls) after
    → old ≡ option_map (λ ls. map (λ u. u.taken) (vs ++ v ∷ []) ++ ls) after
coming_more old before None vs v e f = e ∙ ap (option_map (λ ls. map (λ u. u.taken) vs ++ ls)) f
coming_more {L} old before (Some ls) vs v e f =
    e ∙ ap (option_map (λ ls. map (λ u. u.taken) vs ++ ls)) f
    ∙ ap (λ (xs : List L). Some xs) (sym (ap (λ xs. xs ++ ls) (map-append (λ (u : Visit L). u.taken) vs (v ∷ []))
    ∙ append_assoc (map (λ u. u.taken) vs) (v.taken ∷ []) ls))

returned_more : {L : Type 0} (old before after : Option (List L)) (vs : List (Visit L)) (v : Visit L)
    → before ≡ option_map (λ ls. ls ++ map (λ u. u.given) vs) old → after ≡ option_map (λ ls. ls ++ v.given ∷ []) before
    → after ≡ option_map (λ ls. ls ++ map (λ u. u.given) (vs ++ v ∷ [])) old
returned_more None before after vs v e f = f ∙ ap (option_map (λ ls. ls ++ v.given ∷ [])) e
returned_more {L} (Some ls) before after vs v e f =
    f ∙ ap (option_map (λ ls. ls ++ v.given ∷ [])) e
    ∙ ap (λ (xs : List L). Some xs) (append_assoc ls (map (λ u. u.given) vs) (v.given ∷ [])
    ∙ ap (λ xs. ls ++ xs) (sym (map-append (λ (u : Visit L). u.given) vs (v ∷ []))))

comes_all : {L : Type 0} (coming : Option (List L)) → coming ≡ option_map (λ ls. [] ++ ls) coming
comes_all None = refl
comes_all (Some ls) = refl

returned_none : {L : Type 0} (returned : Option (List L)) → returned ≡ option_map (λ ls. ls ++ []) returned
returned_none None = refl
returned_none {L} (Some ls) = ap (λ (xs : List L). Some xs) (sym (append-nil ls))

-- all but the counts of faults is as it was
pub record Alike {L : Type 0} (before after : DoorState L) : Type 0 where
  pub shared : after.shared ≡ before.shared
  pub coming : after.coming ≡ before.coming
  pub returned : after.returned ≡ before.returned
  pub told : after.told ≡ before.told

-- before the first link
pub nothing_yet : {L : Type 0} (at : L → Shared → LinkState) (old new : DoorState L) → Alike old new → Underway at 0 old new
nothing_yet at old new same = record {
  visits = [];
  visited = record {
    served = tt;
    shared = same.shared;
    coming = comes_all old.coming ∙ ap (option_map (λ ls. [] ++ ls)) (sym same.coming);
    returned = same.returned ∙ returned_none old.returned;
  };
  count = refl;
  going = tt;
  told = same.told ∙ known_nil old.told;
}

-- a link is served and given back
pub record OneMore {L : Type 0} (at : L → Shared → LinkState) (before after : DoorState L) (visit : Visit L) : Type 0 where
  pub served : Serves (at visit.taken before.shared) (at visit.given visit.behind) visit.end
  pub shared : after.shared ≡ visit.behind
  pub coming : before.coming ≡ option_map (λ ls. visit.taken ∷ ls) after.coming
  pub returned : after.returned ≡ option_map (λ ls. ls ++ visit.given ∷ []) before.returned

visited_more : {L : Type 0} (at : L → Shared → LinkState) (old before after : DoorState L) (vs : List (Visit L)) (v : Visit L)
    → Visited at old before vs → OneMore at before after v → Visited at old after (vs ++ v ∷ [])
visited_more at old before after vs v all one = record {
  served = served_more at old.shared vs v all.served
      (subst (λ s. Serves (at v.taken s) (at v.given v.behind) v.end) all.shared one.served);
  shared = one.shared ∙ sym (shared_more old.shared vs v);
  coming = coming_more old.coming before.coming after.coming vs v all.coming one.coming;
  returned = returned_more old.returned before.returned after.returned vs v all.returned one.returned;
}

lines_now : {L : Type 0} (vs : List (Visit L)) (v : Visit L) (n : ℕ) → length vs ≡ n
    → lines_from 1 (vs ++ v ∷ []) ≡ lines_from 1 vs ++ link_line (n + 1) v.end ∷ []
lines_now vs v n e = lines_more 1 vs v ∙ ap (λ k. lines_from 1 vs ++ link_line k v.end ∷ []) (omega (arith, e))

-- its line is written
pub goes_on : {L : Type 0} (at : L → Shared → LinkState) (n : ℕ) (old before after : DoorState L) (v : Visit L)
    → Underway at n old before → OneMore at before after v → IsGoing v.end.status
    → after.told ≡ append_known before.told (link_line (n + 1) v.end) → Underway at (n + 1) old after
goes_on at n old before after v here one going line = record {
  visits = here.visits ++ v ∷ [];
  visited = visited_more at old before after here.visits v here.visited one;
  count = length-append here.visits (v ∷ []) ∙ ap (λ k. k + 1) here.count;
  going = going_more here.visits v here.going going;
  told = line ∙ ap (λ t. append_known t (link_line (n + 1) v.end)) here.told
      ∙ known_append old.told (join (lines_from 1 here.visits)) (link_line (n + 1) v.end)
      ∙ ap (append_known old.told) (sym (join_more (lines_from 1 here.visits) (link_line (n + 1) v.end)))
      ∙ ap (λ ls. append_known old.told (join ls)) (sym (lines_now here.visits v n here.count));
}

visited_alike : {L : Type 0} (at : L → Shared → LinkState) (old before after : DoorState L) (vs : List (Visit L))
    → Visited at old before vs → Alike before after → Visited at old after vs
visited_alike at old before after vs all same = record {
  served = all.served;
  shared = same.shared ∙ all.shared;
  coming = all.coming ∙ ap (option_map (λ ls. map (λ v. v.taken) vs ++ ls)) (sym same.coming);
  returned = same.returned ∙ all.returned;
}

-- the door fails
pub ends_fault : {L : Type 0} (at : L → Shared → LinkState) (n connections : ℕ) (old before after : DoorState L)
    → Underway at n old before → Alike before after → n ≤ connections → Rose old.door_faults after.door_faults
    → ServesDoor at connections old after ended.DoorFault
ends_fault at n connections old before after here same few rose = record {
  visits = here.visits;
  visited = visited_alike at old before after here.visits here.visited same;
  few = omega (arith, here.count);
  ends = (here.going, same.told ∙ here.told, rose);
}

-- no link comes any more, or so many were served
pub ends_done : {L : Type 0} (at : L → Shared → LinkState) (n connections : ℕ) (old before after : DoorState L)
    → Underway at n old before → Alike before after → n ≤ connections → (n ≡ connections) ⊎ NoneComes after
    → ServesDoor at connections old after ended.Done
ends_done {L} at n connections old before after here same few why = record {
  visits = here.visits;
  visited = visited_alike at old before after here.visits here.visited same;
  few = omega (arith, here.count);
  ends = (here.going, same.told ∙ here.told, because why);
}
  where
    because : (n ≡ connections) ⊎ NoneComes after → (length here.visits ≡ connections) ⊎ NoneComes after
    because (inl e) = inl (here.count ∙ e)
    because (inr none) = inr none

-- the pipe takes a part of the last line
pub ends_cut : {L : Type 0} (at : L → Shared → LinkState) (n connections : ℕ) (old before after : DoorState L) (v : Visit L)
    → Underway at n old before → OneMore at before after v → IsGoing v.end.status → n < connections
    → WrotePart before.told after.told (link_line (n + 1) v.end) → Rose old.write_faults after.write_faults
    → ServesDoor at connections old after ended.WriteFault
ends_cut at n connections old before after v here one going few part rose = record {
  visits = here.visits ++ v ∷ [];
  visited = visited_more at old before after here.visits v here.visited one;
  few = omega (arith, here.count, length-append here.visits (v ∷ []));
  ends = (
    going_more here.visits v here.going going,
    record {
      front = lines_from 1 here.visits;
      last = link_line (n + 1) v.end;
      lines = lines_now here.visits v n here.count;
      told = subst (λ t. WrotePart t after.told (link_line (n + 1) v.end)) here.told part;
    },
    rose,
  );
}

-- a disk fails while the last link is served
pub ends_failed : {L : Type 0} (at : L → Shared → LinkState) (n connections : ℕ) (old before after : DoorState L) (v : Visit L)
    → Underway at n old before → OneMore at before after v → v.end.status ≡ ended.DiskFault → n < connections → after.told ≡ before.told
    → DiskRose old.shared.disk_a old.shared.disk_b after.shared.disk_a after.shared.disk_b → ServesDoor at connections old after ended.DiskFault
ends_failed at n connections old before after v here one failed few told rose = record {
  visits = here.visits ++ v ∷ [];
  visited = visited_more at old before after here.visits v here.visited one;
  few = omega (arith, here.count, length-append here.visits (v ∷ []));
  ends = (
    record { front = here.visits; last = v; all = refl; going = here.going; failed = failed; told = told ∙ here.told },
    rose,
  );
}

pub rose_later : (first before after : ℕ) → first ≤ before → Rose before after → Rose first after
rose_later first before after later rose = omega (arith, later, rose)

-- a link ended with a failing disk
pub failed_later : (first_a first_b : DiskState) (old new : LinkState) (end : LinkEnd) → end.status ≡ ended.DiskFault → IsCaused old new end.status
    → first_a.faults ≤ old.disk_a.faults → first_b.faults ≤ old.disk_b.faults → DiskRose first_a first_b new.disk_a new.disk_b
failed_later first_a first_b old new end failed cause later_a later_b = either (subst (IsCaused old new) failed cause)
  where
    either : DiskRose old.disk_a old.disk_b new.disk_a new.disk_b → DiskRose first_a first_b new.disk_a new.disk_b
    either (inl rose) = inl (rose_later _ _ _ later_a rose)
    either (inr rose) = inr (rose_later _ _ _ later_b rose)

-- no link is taken, since the door fails
pub shut : {L : Type 0} (at : L → Shared → LinkState) (connections : ℕ) (old after : DoorState L)
    → Alike old after → Rose old.door_faults after.door_faults → ServesDoor at connections old after ended.DoorFault
shut at connections old after same rose = ends_fault at 0 connections old after after (nothing_yet at old after same)
    (record { shared = refl; coming = refl; returned = refl; told = refl }) (omega arith) rose

-- the door may have failed before
pub from_before : {L : Type 0} (at : L → Shared → LinkState) (connections faults : ℕ) (old after : DoorState L) (status : Status)
    → faults ≤ old.door_faults → ServesDoor at connections old after status
    → ServesDoor at connections (record old { door_faults = faults }) after status
from_before {L = L} at connections faults old after status less all = record {
  visits = all.visits;
  visited = record {
    served = all.visited.served;
    shared = all.visited.shared;
    coming = all.visited.coming;
    returned = all.visited.returned;
  };
  few = all.few;
  ends = ends_from status all.ends;
}
  where
    ends_from : (s : Status) → EndsBy connections old after all.visits s → EndsBy connections (record old { door_faults = faults }) after all.visits s
    ends_from ended.Done e = e
    ends_from ended.DoorFault (going, told, rose) = (going, told, rose_later _ _ _ less rose)
    ends_from ended.WriteFault (going, cut, rose) = (going, record { front = cut.front; last = cut.last; lines = cut.lines; told = cut.told }, rose)
    ends_from ended.DiskFault (none, rose) = (
      record { front = none.front; last = none.last; all = none.all; going = none.going; failed = none.failed; told = none.told },
      rose,
    )
    ends_from ended.NoMemory e = absurd e
    ends_from ended.BadWords e = absurd e
    ends_from ended.ReadFault e = absurd e
    ends_from (ended.Damaged disk place found) e = absurd e
    ends_from (ended.CutShort size) e = absurd e
    ends_from (ended.BadHead kind number) e = absurd e
    ends_from ended.RequestsSpent e = absurd e
