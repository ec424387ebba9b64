-- What stands in what two disks store, and where a payload is damaged.
use Rattle.std.proofs.Common.{◌≡◌, ℕ, zero, suc, ◌+◌, ◌≤◌, Bool, true, false, cond, List, [], ◌∷◌, length, drop, refl, sym, ◌∙◌, ap, subst, arith, Option, Some, Result, Ok, Err}
use Rattle.std.specs.Prelude.{nat_eq, nat_lt, if◌then◌else◌}
use Rattle.document_changes.specs.Changes.{ChangeData}
use Rattle.change_payloads.specs.Change.{Spot as PayloadSpot, spot, whole_change, or_spot}
use Rattle.index_image.specs.Image.{state_at}
use Rattle.index_image.specs.Rows.{ImageData}
use Rattle.change_journal.specs.Format.{Look, closed, bad, opened, look, Field, payload, bad_field, field_in, Walk, walk, walk_field, end_of, Spot, found_at, Stored, stored, by_looks, active_of, by_state, by_walk, by_end}
use Rattle.change_journal.proofs.Walks.{goes, walk_step}
use Rattle.search_base.specs.Trying.{◌>>=◌}
use Rattle.task_queue.specs.declared.task.Task.{Task}
use Rattle.queued_changes.specs.State.{accepted}
use Rattle.queued_changes.specs.Machine.{run}
use Rattle.named_indexes.specs.Changes.{changed}
use Rattle.named_indexes.specs.Payloads.{first_byte, if_good, is_good, recorded_in}
use Rattle.search_routes.specs.State.{State, most_changes}
use Rattle.search_routes.specs.Machine.{numbered}
use Rattle.search_routes.specs.Redo.{redone, task_again}
use Rattle.durable_machine.specs.Reopened.{AllBelow}

-- ---- walks

below_field : (at n : ℕ) (rest : List ℕ) (g : ℕ) (f : Field) → end_of (walk_field at f (λ size. walk (12 + size) (at + 1) (n + 1) rest)) ≡ Ok g
    → ((bytes : List ℕ) → end_of (walk (12 + length bytes) (at + 1) (n + 1) rest) ≡ Ok g → AllBelow g (walk (12 + length bytes) (at + 1) (n + 1) rest))
    → AllBelow g (walk_field at f (λ size. walk (12 + size) (at + 1) (n + 1) rest))
unfolding walk_field
below_field at n rest g (bad_field k) e next = absurd (cc (e))
below_field at n rest g (payload bytes) e next = (omega (arith, (goes (12 + length bytes) (at + 1) (n + 1) rest g e).from), next bytes e)

pub all_below : (skip at n : ℕ) (xs : List ℕ) (g : ℕ) → end_of (walk skip at n xs) ≡ Ok g → AllBelow g (walk skip at n xs)
unfolding walk
all_below zero at n [] g e = tt
all_below (suc skip) at n [] g e = tt
all_below (suc skip) at n (x ∷ xs) g e = all_below skip (at + 1) n xs g e
all_below zero at n (zero ∷ rest) g e = tt
all_below zero at n (suc k ∷ rest) g e =
    let step = walk_step at n (suc k) rest (omega arith) in
    subst (AllBelow g) (sym step) (below_field at n rest g (field_in n rest) (sym (ap end_of step) ∙ e) (λ bytes e'. all_below (12 + length bytes) (at + 1) (n + 1) rest g e'))

-- ---- what two disks store

pub record Reads (s : Stored) : Type 0 where
  pub state : state_at s.image ≡ Ok s.state
  pub ends : end_of s.records ≡ Ok s.gate
  pub below : AllBelow s.gate s.records

end_reads : (d g : ℕ) (xs image : List ℕ) (state : ImageData) (w : Walk) (end : Result ℕ ℕ) (s : Stored) → end_of w ≡ end → state_at image ≡ Ok state
    → ((gate : ℕ) → end_of w ≡ Ok gate → AllBelow gate w) → by_end d g xs image state w end ≡ Ok (Some s) → Reads s
unfolding by_end
end_reads d g xs image state w (Ok gate) s ends spelled below e =
    let made : Stored = record { active = d; generation = g; image = image; state = state; records = w; gate = gate } in
    let same : made ≡ s = cc (e) in
    subst Reads same (record { state = spelled; ends = ends; below = below gate ends })
end_reads d g xs image state w (Err place) s ends spelled below e = absurd (cc (e))

state_reads : (d g l : ℕ) (xs image : List ℕ) (r : Result ImageData PayloadSpot) (s : Stored) → state_at image ≡ r → by_state d g l xs image r ≡ Ok (Some s) → Reads s
unfolding by_state by_walk
state_reads d g l xs image (Ok state) s spelled e =
    let w = walk 0 (24 + l) state.changes (drop (24 + l) xs) in
    end_reads d g xs image state w (end_of w) s refl spelled (all_below 0 (24 + l) state.changes (drop (24 + l) xs)) e
state_reads d g l xs image (Err spot) s spelled e = absurd (cc (e))

active_reads : (d g l : ℕ) (xs : List ℕ) (s : Stored) → active_of d g l xs ≡ Ok (Some s) → Reads s
unfolding active_of
active_reads d g l xs s e = state_reads d g l xs _ _ s refl e

newer_reads : (same newer : Bool) (spot : Spot) (x y : Result (Option Stored) Spot) (s : Stored) → (x ≡ Ok (Some s) → Reads s) → (y ≡ Ok (Some s) → Reads s)
    → cond same (Err spot) (cond newer x y) ≡ Ok (Some s) → Reads s
newer_reads true newer spot x y s of_x of_y e = absurd (cc (e))
newer_reads false true spot x y s of_x of_y e = of_x e
newer_reads false false spot x y s of_x of_y e = of_y e

looks_read : (a b : List ℕ) (on_a on_b : Look) (s : Stored) → by_looks a b on_a on_b ≡ Ok (Some s) → Reads s
unfolding by_looks
looks_read a b (bad k) closed s e = absurd (cc (e))
looks_read a b (bad k) (bad j) s e = absurd (cc (e))
looks_read a b (bad k) (opened h m) s e = absurd (cc (e))
looks_read a b closed (bad k) s e = absurd (cc (e))
looks_read a b (opened g l) (bad k) s e = absurd (cc (e))
looks_read a b closed closed s e = absurd (cc (e))
looks_read a b (opened g l) closed s e = active_reads 0 g l a s e
looks_read a b closed (opened h m) s e = active_reads 1 h m b s e
looks_read a b (opened g l) (opened h m) s e =
    newer_reads (nat_eq g h) (nat_lt h g) (record { disk = 1; place = 8; found = found_at b 8 }) (active_of 0 g l a) (active_of 1 h m b) s (active_reads 0 g l a s) (active_reads 1 h m b s) e

pub reads : (a b : List ℕ) (s : Stored) → stored a b ≡ Ok (Some s) → Reads s
unfolding stored
reads a b s e = looks_read a b (look a) (look b) s e

-- ---- payloads that are damaged

abbrev IsIn : List ℕ → PayloadSpot → Type 0
IsIn bytes at = at.place ≤ length bytes

first_in : (bytes : List ℕ) (at : PayloadSpot) → first_byte bytes ≡ at → IsIn bytes at
first_in bytes at same = subst (IsIn bytes) same (omega arith)

good_place : (bytes : List ℕ) (good : Bool) (c : ChangeData) (at : PayloadSpot) → if good then Ok c else Err (first_byte bytes) ≡ Err at → IsIn bytes at
good_place bytes true c at e = absurd (cc (e))
good_place bytes false c at e = first_in bytes at (cc (e))

read_place : (bytes : List ℕ) (r : Result ChangeData ℕ) (at : PayloadSpot) → if_good (first_byte bytes) (or_spot bytes r) ≡ Err at → IsIn bytes at
read_place bytes (Ok c) at e = good_place bytes (is_good c) c at e
read_place bytes (Err left) at e = let same : spot bytes left ≡ at = cc (e) in subst (IsIn bytes) same (omega arith)

recorded_place : (bytes : List ℕ) (at : PayloadSpot) → recorded_in bytes ≡ Err at → IsIn bytes at
unfolding recorded_in
recorded_place bytes at e = read_place bytes (whole_change bytes) at e

room_place : (bytes : List ℕ) (room : Bool) (t : Task ChangeData) (at : PayloadSpot) → if room then Ok t else Err (first_byte bytes) ≡ Err at → IsIn bytes at
room_place bytes true t at e = absurd (cc (e))
room_place bytes false t at e = first_in bytes at (cc (e))

task_place : (number : ℕ) (bytes : List ℕ) (r : Result ChangeData PayloadSpot) (at : PayloadSpot) → ((spot : PayloadSpot) → r ≡ Err spot → IsIn bytes spot)
    → (r >>= λ c. if nat_lt number most_changes then Ok (numbered number c) else Err (first_byte bytes)) ≡ Err at → IsIn bytes at
task_place number bytes (Ok c) at within e = room_place bytes (nat_lt number most_changes) (numbered number c) at e
task_place number bytes (Err spot) at within e = within at (ap Err (cc (e)))

-- damage stands in the payload or at its end
pub damage_place : (number : ℕ) (bytes : List ℕ) (at : PayloadSpot) → task_again number bytes ≡ Err at → at.place ≤ length bytes
damage_place number bytes at e = task_place number bytes (recorded_in bytes) at (λ spot is. recorded_place bytes spot is) e

-- and then nothing is run again
pub damage_redone : (s : State) (bytes : List ℕ) (at : PayloadSpot) → task_again (accepted s) bytes ≡ Err at → redone s bytes ≡ Err at
unfolding redone
damage_redone s bytes at e = ap (λ (r : Result (Task ChangeData) PayloadSpot). r >>= λ t. Ok (run changed t [] s)) e
