-- The state of two disks depends on their stored pair alone.
use Rattle.std.proofs.Common.{◌≡◌, ℕ, ◌+◌, List, [], ◌∷◌, ◌++◌, length, refl, sym, ◌∙◌, ap, arith, Option, Some, None, Result, Ok, Err}
use Rattle.change_payloads.specs.Change.{Spot as PayloadSpot}
use Rattle.index_image.specs.Image.{state_at}
use Rattle.index_image.specs.Rows.{ImageData}
use Rattle.change_journal.specs.Format.{Walk, shut, broken, entry, payloads, Spot, Stored, stored, Pair, pair_in, stored_pair}
use Rattle.change_journal.specs.Fits.{grown, image_pair}
use Rattle.document_changes.specs.Changes.{ChangeData}
use Rattle.task_queue.specs.declared.task.Task.{Task}
use Rattle.queued_changes.specs.State.{accepted}
use Rattle.queued_changes.specs.Machine.{run, run_each, run_out}
use Rattle.named_indexes.specs.Changes.{changed}
use Rattle.search_routes.specs.State.{State, empty_state, finished_part}
use Rattle.search_routes.specs.Images.{state_of, Spells}
use Rattle.search_routes.specs.Redo.{redone, task_again}
use Rattle.durable_machine.specs.Held.{if_redone, run_from, held_in, held}
use Rattle.durable_machine.specs.Recorded.{AreTasks}
use Rattle.durable_machine.proofs.Runs.{reads}
use Rattle.durable_machine.proofs.Settled.{out_each, redone_idle, redone_is}

-- the value, without why there is none
abbrev pub kept : {A E : Type 0} → Result A E → Option A
kept (Ok x) = Some x
kept (Err e) = None

abbrev then_for : Option State → (State → Option State) → Option State
then_for (Some s) rest = rest s
then_for None rest = None

abbrev pub after : State → List (List ℕ) → Option State
after s [] = Some s
after s (bytes ∷ others) = then_for (kept (redone s bytes)) (λ t. after t others)

abbrev of_image : Result ImageData PayloadSpot → List (List ℕ) → Option State
of_image (Ok s) changes = after (state_of s) changes
of_image (Err spot) changes = None

abbrev of_pair : Option (List ℕ) → List (List ℕ) → Option State
of_pair None changes = after empty_state changes
of_pair (Some image) changes = of_image (state_at image) changes

-- the state of a stored pair
abbrev pub pair_state : Result Pair Spot → Option State
pair_state (Ok p) = of_pair p.image p.changes
pair_state (Err spot) = None

run_next : (disk at : ℕ) (records : Walk) (r : Result State PayloadSpot) → ((t : State) → kept (run_from disk t records) ≡ after t (payloads records))
    → kept (if_redone disk at r (λ t. run_from disk t records)) ≡ then_for (kept r) (λ t. after t (payloads records))
run_next disk at records (Ok t) goes = goes t
run_next disk at records (Err spot) goes = refl

run_pairs : (disk : ℕ) (s : State) (records : Walk) → kept (run_from disk s records) ≡ after s (payloads records)
run_pairs disk s (shut at) = refl
run_pairs disk s (broken place) = refl
run_pairs disk s (entry at bytes records) = run_next disk at records (redone s bytes) (λ t. run_pairs disk t records)

held_next : (r : Result (Option Stored) Spot) → ((s : Stored) → r ≡ Ok (Some s) → state_at s.image ≡ Ok s.state) → kept (held_in r) ≡ pair_state (pair_in r)
held_next (Ok None) spelled = refl
held_next (Ok (Some s)) spelled = run_pairs s.active (state_of s.state) s.records ∙ ap (λ (r : Result ImageData PayloadSpot). of_image r (payloads s.records)) (sym (spelled s refl))
held_next (Err spot) spelled = refl

pub held_pair : (xs ys : List ℕ) → kept (held xs ys) ≡ pair_state (stored_pair xs ys)
unfolding held
held_pair xs ys = held_next (stored xs ys) (λ s e. (reads xs ys s e).state)

kept_ok : {E : Type 0} (r : Result State E) (s : State) → kept r ≡ Some s → r ≡ Ok s
kept_ok (Ok t) s e = cc (e)
kept_ok (Err spot) s e = absurd (cc (e))

pub held_to : (xs ys : List ℕ) (s : State) → held xs ys ≡ Ok s → pair_state (stored_pair xs ys) ≡ Some s
held_to xs ys s e = sym (held_pair xs ys) ∙ ap (λ (r : Result State Spot). kept r) e

pub held_from : (xs ys : List ℕ) (s : State) → pair_state (stored_pair xs ys) ≡ Some s → held xs ys ≡ Ok s
held_from xs ys s e = kept_ok (held xs ys) s (held_pair xs ys ∙ e)

-- one change more
last_one : (r : Result State PayloadSpot) → then_for (kept r) (λ t. Some t) ≡ kept r
last_one (Ok t) = refl
last_one (Err spot) = refl

push_next : (o : Option State) (others : List (List ℕ)) (bytes : List ℕ) → ((t : State) → after t (others ++ bytes ∷ []) ≡ then_for (after t others) (λ u. kept (redone u bytes)))
    → then_for o (λ t. after t (others ++ bytes ∷ [])) ≡ then_for (then_for o (λ t. after t others)) (λ u. kept (redone u bytes))
push_next (Some t) others bytes goes = goes t
push_next None others bytes goes = refl

after_push : (s : State) (changes : List (List ℕ)) (bytes : List ℕ) → after s (changes ++ bytes ∷ []) ≡ then_for (after s changes) (λ t. kept (redone t bytes))
after_push s [] bytes = last_one (redone s bytes)
after_push s (first ∷ others) bytes = push_next (kept (redone s first)) others bytes (λ t. after_push t others bytes)

image_push : (r : Result ImageData PayloadSpot) (changes : List (List ℕ)) (bytes : List ℕ) → of_image r (changes ++ bytes ∷ []) ≡ then_for (of_image r changes) (λ t. kept (redone t bytes))
image_push (Ok s) changes bytes = after_push (state_of s) changes bytes
image_push (Err spot) changes bytes = refl

pair_push : (image : Option (List ℕ)) (changes : List (List ℕ)) (bytes : List ℕ) → of_pair image (changes ++ bytes ∷ []) ≡ then_for (of_pair image changes) (λ t. kept (redone t bytes))
pair_push None changes bytes = after_push empty_state changes bytes
pair_push (Some image) changes bytes = image_push (state_at image) changes bytes

grown_push : (r : Result Pair Spot) (bytes : List ℕ) → pair_state (grown bytes r) ≡ then_for (pair_state r) (λ t. kept (redone t bytes))
grown_push (Ok p) bytes = pair_push p.image p.changes bytes
grown_push (Err spot) bytes = refl

pub grown_state : (r : Result Pair Spot) (bytes : List ℕ) (s t : State) → pair_state r ≡ Some s → redone s bytes ≡ Ok t → pair_state (grown bytes r) ≡ Some t
grown_state r bytes s t was e =
    grown_push r bytes ∙ ap (λ (o : Option State). then_for o (λ u. kept (redone u bytes))) was ∙ ap (λ (q : Result State PayloadSpot). kept q) e

-- ---- no task waits in what two disks hold

idle_next : (o : Option State) (more : List (List ℕ)) (t : State) → ((u : State) → o ≡ Some u → u.queue ≡ []) → ((u : State) → u.queue ≡ [] → after u more ≡ Some t → t.queue ≡ [])
    → then_for o (λ u. after u more) ≡ Some t → t.queue ≡ []
idle_next (Some u) more t idle goes e = goes u (idle u refl) e
idle_next None more t idle goes e = absurd (cc (e))

kept_idle : (s : State) (bytes : List ℕ) (u : State) → kept (redone s bytes) ≡ Some u → u.queue ≡ []
kept_idle s bytes u e = redone_idle s bytes u (kept_ok (redone s bytes) u e)

after_idle : (s : State) (changes : List (List ℕ)) (t : State) → s.queue ≡ [] → after s changes ≡ Some t → t.queue ≡ []
after_idle s [] t idle e = let same : s ≡ t = cc (e) in ap (λ (u : State). u.queue) (sym same) ∙ idle
after_idle s (bytes ∷ more) t idle e = idle_next (kept (redone s bytes)) more t (kept_idle s bytes) (λ u idle e. after_idle u more t idle e) e

image_idle : (r : Result ImageData PayloadSpot) (changes : List (List ℕ)) (t : State) → of_image r changes ≡ Some t → t.queue ≡ []
image_idle (Ok s) changes t e = after_idle (state_of s) changes t refl e
image_idle (Err spot) changes t e = absurd (cc (e))

of_pair_idle : (image : Option (List ℕ)) (changes : List (List ℕ)) (t : State) → of_pair image changes ≡ Some t → t.queue ≡ []
of_pair_idle None changes t e = after_idle empty_state changes t refl e
of_pair_idle (Some image) changes t e = image_idle (state_at image) changes t e

pair_idle : (r : Result Pair Spot) (t : State) → pair_state r ≡ Some t → t.queue ≡ []
pair_idle (Ok p) t e = of_pair_idle p.image p.changes t e
pair_idle (Err spot) t e = absurd (cc (e))

pub held_idle : (xs ys : List ℕ) (s : State) → held xs ys ≡ Ok s → s.queue ≡ []
held_idle xs ys s e = pair_idle (stored_pair xs ys) s (held_to xs ys s e)

-- ---- an image with the tasks that wait behind it

after_tasks : (n : ℕ) (payloads : List (List ℕ)) (ts : List (Task ChangeData)) (s : State) → s.queue ≡ [] → n ≡ accepted s → AreTasks n payloads ts → after s payloads ≡ Some (run_each changed ts s)
after_tasks n [] [] s idle count are = refl
after_tasks n [] (t ∷ ts) s idle count are = absurd are
after_tasks n (bytes ∷ more) [] s idle count are = absurd are
after_tasks n (bytes ∷ more) (t ∷ ts) s idle count (again, are) =
    let made : redone s bytes ≡ Ok (run changed t [] s) = redone_is s bytes t (ap (λ (k : ℕ). task_again k bytes) (sym count) ∙ again) in
    ap (λ (r : Result State PayloadSpot). then_for (kept r) (λ u. after u more)) made
    ∙ after_tasks (n + 1) more ts (run changed t [] s) refl (omega (arith, count, ap length idle)) are

pub image_state : (image : List ℕ) (payloads : List (List ℕ)) (s : State) → Spells image s (state_at image) → AreTasks s.finished payloads s.queue
    → pair_state (Ok (image_pair image payloads)) ≡ Some (run_out changed s)
image_state image payloads s spelled are =
    ap (λ (r : Result ImageData PayloadSpot). of_image r payloads) spelled.is ∙ ap (λ (t : State). after t payloads) spelled.machine_of
    ∙ after_tasks s.finished payloads s.queue (finished_part s) refl (omega arith) are ∙ ap Some (sym (out_each s))
