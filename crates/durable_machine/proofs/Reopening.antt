-- The machine of what was opened.
use Rattle.std.proofs.Common.{◌≡◌, ℕ, ◌+◌, List, [], ◌∷◌, length-append, refl, sym, ◌∙◌, ap, subst, arith, Option, Some, None, Result, Ok, Err}
use Rattle.std.specs.Option.{option_map}
use Rattle.index_image.specs.declared.rows.ImageRows.{ImageRows}
use Rattle.index_image.specs.Rows.{ImageData, image_view}
use Rattle.change_journal.specs.Format.{Walk, shut, entry, end_of, Spot, Stored, stored}
use Rattle.change_journal.specs.Fits.{BothTold}
use Rattle.change_journal.specs.Opens.{behind, AnswersAll, Stands}
use Rattle.outside_io.specs.Disks.{Contents, fresh}
use Rattle.change_journal.specs.declared.opening.Opened.{Opened}
use Rattle.change_journal.specs.declared.opening.StoredChange.{StoredChange}
use Rattle.change_journal.specs.declared.opening.JournalFault.{JournalFault}
use Rattle.change_journal.specs.declared.opening.JournalFault.TheVariants.{Damaged}
use Rattle.document_changes.specs.Changes.{ChangeData}
use Rattle.task_queue.specs.declared.task.Task.{Task}
use Rattle.queued_changes.specs.State.{accepted}
use Rattle.queued_changes.specs.Machine.{behind as waits_behind, make_room, run_out}
use Rattle.queued_changes.specs.Needs.{fill_need}
use Rattle.queued_changes.proofs.Runs.{room_counts}
use Rattle.named_indexes.specs.Changes.{changed}
use Rattle.named_indexes.specs.Needs.{need}
use Rattle.search_routes.specs.State.{State, empty_state}
use Rattle.search_routes.specs.Images.{state_of, image_need}
use Rattle.search_routes.specs.Needs.{room_need}
use Rattle.search_routes.specs.Redo.{task_again}
use Rattle.durable_machine.specs.Held.{if_redone, run_from, held_in, held, need_in, opening_need, tasks_from}
use Rattle.durable_machine.specs.Reopened.{AllBelow, task_need}
use Rattle.durable_machine.proofs.Runs.{Reads, reads}
use Rattle.durable_machine.proofs.Settled.{room_redone}

end_behind : (changes : List StoredChange) (gate : ℕ) → end_of (behind changes (shut gate)) ≡ Ok gate
end_behind [] gate = refl
end_behind (change ∷ changes) gate = end_behind changes gate

-- where no disk was open
nothing_held : (o : Opened) (r : Result (Option Stored) Spot) → o.image ≡ None → Stands o r → held_in r ≡ Ok empty_state
nothing_held o (Err spot) none stands = absurd stands
nothing_held o (Ok None) none stands = refl
nothing_held o (Ok (Some s)) none stands = let some = stands.image in absurd (cc (ap (option_map image_view) none, some))

pub none_held : (o : Opened) (xs ys : List ℕ) → o.image ≡ None → Stands o (stored xs ys) → held xs ys ≡ Ok empty_state
unfolding held
none_held o xs ys none stands = nothing_held o (stored xs ys) none stands

-- where one was
abbrev pub need_of : ImageData → Walk → ℕ
need_of state records = image_need state + fill_need changed need (tasks_from state.changes records) (state_of state)

pub record Starts (o : Opened) (rows : ImageRows) (changes : List StoredChange) (found : Result State Spot) (needed : ℕ) : Type 0 where
  pub run : found ≡ run_from o.active (state_of (image_view rows)) (behind changes (shut o.journal.gate))
  pub need : needed ≡ need_of (image_view rows) (behind changes (shut o.journal.gate))
  pub below : AllBelow o.journal.gate (behind changes (shut o.journal.gate))

abbrev run_of : ℕ → ImageData → Walk → Result State Spot
run_of disk state records = run_from disk (state_of state) records

stands_starts : (o : Opened) (rows : ImageRows) (r : Result (Option Stored) Spot) → o.image ≡ Some rows → ((s : Stored) → r ≡ Ok (Some s) → Reads s) → Stands o r → Starts o rows o.changes.items (held_in r) (need_in r)
stands_starts o rows (Err spot) some read stands = absurd stands
stands_starts o rows (Ok None) some read stands = let none = stands.image in absurd (cc (none, some))
stands_starts o rows (Ok (Some s)) some read stands =
    let same : stands.stored ≡ s = cc (stands.is) in
    let opens = stands in
    let disk : s.active ≡ o.active = sym (opens.active ∙ ap (λ (q : Stored). q.active) same) in
    let image : Some s.state ≡ Some (image_view rows) = sym (opens.image ∙ ap (λ (q : Stored). Some q.state) same) ∙ ap (option_map image_view) some in
    let state : s.state ≡ image_view rows = cc (image) in
    let records : s.records ≡ behind o.changes.items (shut o.journal.gate) = sym (opens.changes ∙ ap (λ (q : Stored). q.records) same) in
    let facts = read s refl in
    let ends : Ok s.gate ≡ Ok o.journal.gate = sym facts.ends ∙ ap end_of records ∙ end_behind o.changes.items o.journal.gate in
    let gate : s.gate ≡ o.journal.gate = cc (ends) in
    record {
      run = ap (λ (d : ℕ). run_of d s.state s.records) disk ∙ ap (λ (q : ImageData). run_of o.active q s.records) state ∙ ap (run_of o.active (image_view rows)) records;
      need = ap (λ (q : ImageData). need_of q s.records) state ∙ ap (need_of (image_view rows)) records;
      below = subst (λ (n : ℕ). AllBelow n (behind o.changes.items (shut o.journal.gate))) gate (subst (AllBelow s.gate) records facts.below);
    }

pub starts : (o : Opened) (rows : ImageRows) (changes : List StoredChange) (xs ys : List ℕ) → o.image ≡ Some rows → changes ≡ o.changes.items → Stands o (stored xs ys)
    → Starts o rows changes (held xs ys) (opening_need xs ys)
unfolding held opening_need
starts o rows changes xs ys some same stands =
    subst (λ (l : List StoredChange). Starts o rows l (held_in (stored xs ys)) (need_in (stored xs ys))) (sym same) (stands_starts o rows (stored xs ys) some (reads xs ys) stands)

-- damage that is found when the disks are read
spot_held : (xs ys : List ℕ) (spot : Spot) → stored xs ys ≡ Err spot → held xs ys ≡ Err spot
unfolding held
spot_held xs ys spot e = ap held_in e

pub told_damage : (a b : Option Contents) (fault : JournalFault) (disk place : ℕ) (found : Option ℕ) (xs ys : List ℕ) → BothTold a b (λ p q. AnswersAll (Err fault) (stored p q))
    → fault ≡ Damaged disk place found → a ≡ Some (fresh xs) → b ≡ Some (fresh ys) → held xs ys ≡ Err (record { disk = disk; place = place; found = found })
told_damage a b fault disk place found xs ys told same is_a is_b =
    let P : List ℕ → List ℕ → Type 0 = λ p q. AnswersAll (Err fault) (stored p q) in
    let both : AnswersAll (Err fault) (stored xs ys) = subst (λ p. BothTold p (Some (fresh ys)) P) is_a (subst (λ q. BothTold a q P) is_b told) in
    spot_held xs ys (record { disk = disk; place = place; found = found }) (subst (λ (f : JournalFault). AnswersAll (Err f) (stored xs ys)) same both)

-- ---- a task comes to wait again

-- what is left to run gives the same
pub run_waits : (disk at : ℕ) (bytes : List ℕ) (records : Walk) (s new : State) (t : Task ChangeData) → task_again (accepted s) bytes ≡ Ok t → new ≡ waits_behind t (make_room changed s)
    → run_from disk (run_out changed s) (entry at bytes records) ≡ run_from disk (run_out changed new) records
run_waits disk at bytes records s new t again is =
    ap (λ r. if_redone disk at r (λ u. run_from disk u records)) (room_redone s t bytes again) ∙ ap (λ u. run_from disk (run_out changed u) records) (sym is)

pub count_waits : (s new : State) (t : Task ChangeData) → new ≡ waits_behind t (make_room changed s) → accepted new ≡ accepted s + 1
count_waits s new t is = omega (arith, ap accepted is, room_counts changed s, length-append (make_room changed s).queue (t ∷ []))

-- and needs the rest
pub need_waits : (at : ℕ) (bytes : List ℕ) (records : Walk) (s new : State) (t : Task ChangeData) → task_again (accepted s) bytes ≡ Ok t → new ≡ waits_behind t (make_room changed s)
    → fill_need changed need (tasks_from (accepted s) (entry at bytes records)) s ≡ task_need (task_again (accepted s) bytes) s + fill_need changed need (tasks_from (accepted new) records) new
need_waits at bytes records s new t again is =
    let rest : fill_need changed need (tasks_from (accepted s + 1) records) (waits_behind t (make_room changed s)) ≡ fill_need changed need (tasks_from (accepted new) records) new =
    ap (λ (n : ℕ). fill_need changed need (tasks_from n records) (waits_behind t (make_room changed s))) (sym (count_waits s new t is))
    ∙ ap (λ (u : State). fill_need changed need (tasks_from (accepted new) records) u) (sym is) in
    rw again (ap (λ (n : ℕ). room_need s + n) rest)
