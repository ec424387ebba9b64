-- What a crash leaves on two disks.
use Rattle.std.proofs.Common.{◌≡◌, ◌⊎◌, inl, inr, ℕ, List, refl, sym, ◌∙◌, ap, Option, Some, Result, Ok, Err, OnErr, OnOk}
use Rattle.outside_io.specs.Disks.{Contents, fresh}
use Rattle.change_journal.specs.Format.{Spot, Pair, stored_pair}
use Rattle.change_journal.specs.Fits.{IsSettled, IsBeforeOrAfter, HasCount, IsOldOrImage, StandsFor, grown, image_pair}
use Rattle.change_journal.specs.Shut.{is_told}
use Rattle.index_image.specs.Image.{state_at}
use Rattle.index_image.specs.Rows.{ImageData}
use Rattle.queued_changes.specs.State.{accepted}
use Rattle.queued_changes.specs.Machine.{run_out}
use Rattle.named_indexes.specs.Changes.{changed}
use Rattle.search_routes.specs.State.{State}
use Rattle.search_routes.specs.Images.{Spells}
use Rattle.search_routes.specs.Redo.{redone}
use Rattle.durable_machine.specs.Held.{held}
use Rattle.durable_machine.specs.Recorded.{AreTasks}
use Rattle.durable_machine.specs.Durable.{Hold, CrashHolds, IsDurable}
use Rattle.durable_machine.specs.declared.machine.DurableMachine.{DurableMachine}
use Rattle.durable_machine.proofs.Pairs.{pair_state, held_to, held_from, grown_state, image_state}
use Rattle.durable_machine.proofs.Sides.{told_before, left_now, same_told}

-- where nothing is pending, a crash leaves what the disks hold
pub held_now : (a b : Option Contents) (s : State) → IsSettled a → IsSettled b → Hold a b s → CrashHolds a b (λ t. t ≡ run_out changed s)
held_now a b s calm_a calm_b holds = λ xs ys left_a left_b. (run_out changed s, holds xs ys (left_now a calm_a xs left_a) (left_now b calm_b ys left_b), refl)

pub crash_now : (m : DurableMachine) (a b : Option Contents) → IsDurable m a b → CrashHolds a b (λ t. t ≡ run_out changed m.machine)
crash_now m a b durable = held_now a b m.machine durable.settled_a durable.settled_b durable.holds

-- a machine that leaves the same once its tasks have run
pub run_durable : (m n : DurableMachine) (a b : Option Contents) → n.journal ≡ m.journal → accepted n.machine ≡ accepted m.machine
    → run_out changed n.machine ≡ run_out changed m.machine → IsDurable m a b → IsDurable n a b
run_durable m n a b journal count out durable = record {
  active = rw journal durable.active;
  fits = rw journal durable.fits;
  count = ap (λ j. j.count) journal ∙ durable.count ∙ sym count;
  settled_a = durable.settled_a;
  settled_b = durable.settled_b;
  holds = λ xs ys is_a is_b. durable.holds xs ys is_a is_b ∙ ap Ok (sym out);
  migrated = durable.migrated;
}

-- from stored pairs to states
pair_held : (xs ys : List ℕ) (r : Result Pair Spot) (s : State) → stored_pair xs ys ≡ r → pair_state r ≡ Some s → held xs ys ≡ Ok s
pair_held xs ys r s e state = held_from xs ys s (ap pair_state e ∙ state)

-- a task more behind what two disks hold
grown_is : (a b bytes : List ℕ) (s t : State) → held a b ≡ Ok s → redone s bytes ≡ Ok t → pair_state (grown bytes (stored_pair a b)) ≡ Some t
grown_is a b bytes s t was made = grown_state (stored_pair a b) bytes s t (held_to a b s was) made

pub torn_change : (a b xs ys bytes : List ℕ) (s t : State) → held a b ≡ Ok s → redone s bytes ≡ Ok t → IsBeforeOrAfter bytes (stored_pair a b) (stored_pair xs ys)
    → (u : State) × (held xs ys ≡ Ok u) × ((u ≡ s) ⊎ (u ≡ t))
torn_change a b xs ys bytes s t was made (inl before) = (s, pair_held xs ys (stored_pair a b) s before (held_to a b s was), inl refl)
torn_change a b xs ys bytes s t was made (inr more) = (t, pair_held xs ys (grown bytes (stored_pair a b)) t more (grown_is a b bytes s t was made), inr refl)

pub torn_image : (a b xs ys image : List ℕ) (payloads : List (List ℕ)) (s : State) → held a b ≡ Ok (run_out changed s) → Spells image s (state_at image) → AreTasks s.finished payloads s.queue
    → IsOldOrImage image payloads (stored_pair a b) (stored_pair xs ys) → (t : State) × (held xs ys ≡ Ok t) × (t ≡ run_out changed s)
torn_image a b xs ys image payloads s was spelled are (inl before) =
    (run_out changed s, pair_held xs ys (stored_pair a b) (run_out changed s) before (held_to a b (run_out changed s) was), refl)
torn_image a b xs ys image payloads s was spelled are (inr new) =
    (run_out changed s, pair_held xs ys (Ok (image_pair image payloads)) (run_out changed s) new (image_state image payloads s spelled are), refl)

-- two disks before a call and after it
module _ (a0 b0 a1 b1 : Option Contents) (alike_a : is_told a1 ≡ is_told a0) (alike_b : is_told b1 ≡ is_told b0) (calm_a : IsSettled a0) (calm_b : IsSettled b0) where
  -- they stand for what follows from the pair that they stood for
  pub now_stand : (next : Result Pair Spot → Result Pair Spot) → ((a b : List ℕ) → a0 ≡ Some (fresh a) → b0 ≡ Some (fresh b) → StandsFor a1 b1 (next (stored_pair a b)))
      → (xs ys : List ℕ) → a1 ≡ Some (fresh xs) → b1 ≡ Some (fresh ys) → (a b : List ℕ) × (a0 ≡ Some (fresh a)) × (b0 ≡ Some (fresh b)) × (stored_pair xs ys ≡ next (stored_pair a b))
  now_stand next now xs ys is_a is_b =
      let was_a = told_before a0 a1 alike_a calm_a xs is_a in
      let was_b = told_before b0 b1 alike_b calm_b ys is_b in
      let stands = now was_a.0 was_b.0 was_a.1 was_b.1 in
      let same_a = same_told a1 xs stands.0 is_a stands.2 in
      let same_b = same_told b1 ys stands.1 is_b stands.3 in
      (was_a.0, was_b.0, was_a.1, was_b.1, ap (λ (l : List ℕ). stored_pair l ys) same_a ∙ ap (λ (l : List ℕ). stored_pair stands.0 l) same_b ∙ stands.4)

  pub change_held : (bytes : List ℕ) (s t : State) → ((a b : List ℕ) → a0 ≡ Some (fresh a) → b0 ≡ Some (fresh b) → StandsFor a1 b1 (grown bytes (stored_pair a b)))
      → Hold a0 b0 s → redone (run_out changed s) bytes ≡ Ok (run_out changed t) → Hold a1 b1 t
  change_held bytes s t now holds made = λ xs ys is_a is_b.
      let (a, b, was_a, was_b, stands) = now_stand (grown bytes) now xs ys is_a is_b in
      pair_held xs ys (grown bytes (stored_pair a b)) (run_out changed t) stands (grown_is a b bytes (run_out changed s) (run_out changed t) (holds a b was_a was_b) made)

  pub image_held : (image : List ℕ) (payloads : List (List ℕ)) (s : State)
      → ((a b : List ℕ) → a0 ≡ Some (fresh a) → b0 ≡ Some (fresh b) → StandsFor a1 b1 (Ok (image_pair image payloads)))
      → Spells image s (state_at image) → AreTasks s.finished payloads s.queue → Hold a1 b1 s
  image_held image payloads s now spelled are = λ xs ys is_a is_b.
      let next : Result Pair Spot → Result Pair Spot = λ r. Ok (image_pair image payloads) in
      let was = now_stand next now xs ys is_a is_b in
      pair_held xs ys (Ok (image_pair image payloads)) (run_out changed s) was.4 (image_state image payloads s spelled are)

-- an image that spells the finished part of a machine counts its finished tasks
pub counted_image : (image : List ℕ) (n : ℕ) (s : State) → HasCount image n → Spells image s (state_at image) → n ≡ s.finished
counted_image image n s (state, is, counts) spelled =
    let same : state ≡ spelled.state = cc (is, spelled.is) in
    sym counts ∙ ap (λ (d : ImageData). d.changes) same ∙ ap (λ (t : State). t.finished) spelled.machine_of

-- ---- answers

-- what holds of a crash holds of it by other words
crash_by : (a b : Option Contents) (P Q : State → Type 0) → ((t : State) → P t → Q t) → CrashHolds a b P → CrashHolds a b Q
crash_by a b P Q told holds = λ xs ys left_a left_b. let now = holds xs ys left_a left_b in (now.0, now.1, told now.0 now.2)

abbrev either : State → State → State → Type 0
either p q t = (t ≡ p) ⊎ (t ≡ q)

either_by : (p q p2 q2 t : State) → p ≡ p2 → q ≡ q2 → either p q t → either p2 q2 t
either_by p q p2 q2 t same_p same_q (inl e) = inl (e ∙ same_p)
either_by p q p2 q2 t same_p same_q (inr e) = inr (e ∙ same_q)

pub crash_either : {T E : Type 0} (r : Result T E) (a b : Option Contents) (p q p2 q2 : State) → p ≡ p2 → q ≡ q2 → OnErr r (CrashHolds a b (λ t. (t ≡ p) ⊎ (t ≡ q)))
    → OnErr r (CrashHolds a b (λ t. (t ≡ p2) ⊎ (t ≡ q2)))
crash_either (Ok x) a b p q p2 q2 same_p same_q holds = tt
crash_either (Err e) a b p q p2 q2 same_p same_q holds = crash_by a b (either p q) (either p2 q2) (λ t is. either_by p q p2 q2 t same_p same_q is) holds

pub crash_done : {T E : Type 0} (r : Result T E) (m : DurableMachine) (a b : Option Contents) → OnOk r (IsDurable m a b) → OnOk r (CrashHolds a b (λ t. t ≡ run_out changed m.machine))
crash_done (Ok x) m a b durable = crash_now m a b durable
crash_done (Err e) m a b durable = tt
