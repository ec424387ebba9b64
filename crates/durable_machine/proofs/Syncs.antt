-- Two disks that were read and then synced.
use Rattle.std.proofs.Common.{◌≡◌, ◌≢◌, ℕ, ◌+◌, List, [], length, refl, sym, ◌∙◌, ap, subst, arith, Option, Some, None, Result, Ok, Err, OnOk, OnErr}
use Rattle.std.specs.Option.{is_some, option_map}
use Rattle.std.specs.Prelude.{MatchOption, true}
use Rattle.outside_io.specs.Disks.{Contents, Told, fresh, settled}
use Rattle.change_journal.specs.Format.{Spot, Stored, look, stored}
use Rattle.change_journal.specs.Fits.{BothTold, Fits, FitsAt, Holds, IsOlder, IsSettled}
use Rattle.change_journal.specs.Opens.{IsReady, Stands}
use Rattle.change_journal.specs.Shut.{is_told}
use Rattle.change_journal.specs.declared.journal.Journal.{Journal}
use Rattle.change_journal.specs.declared.journal.Side.TheVariants.{A, B}
use Rattle.change_journal.specs.declared.journal.Side.{Side}
use Rattle.change_journal.specs.declared.opening.Opened.{Opened}
use Rattle.index_image.specs.Rows.{image_view}
use Rattle.index_image.specs.State.{IsState}
use Rattle.index_image.specs.declared.rows.ImageRows.{ImageRows}
use Rattle.queued_changes.specs.Machine.{run_out}
use Rattle.named_indexes.specs.Changes.{changed}
use Rattle.search_routes.specs.State.{State}
use Rattle.durable_machine.specs.Held.{held}
use Rattle.durable_machine.specs.Durable.{CrashHolds, Hold, IsDurable, IsMigrated}
use Rattle.durable_machine.specs.declared.machine.DurableMachine.{DurableMachine}
use Rattle.durable_machine.proofs.Sides.{both_from, same_told}
use Rattle.durable_machine.proofs.Settled.{idle_out}
use Rattle.durable_machine.proofs.Pairs.{held_idle}
use Rattle.durable_machine.proofs.Crash.{held_now}

pub still_fresh : (o p : Option Contents) (xs : List ℕ) → p ≡ option_map settled o → o ≡ Some (fresh xs) → p ≡ Some (fresh xs)
still_fresh o p xs e was = e ∙ ap (option_map settled) was

pub now_settled : (o p : Option Contents) → p ≡ option_map settled o → IsSettled p
now_settled None p e = subst (λ q. IsSettled q) (sym e) refl
now_settled (Some s) p e = subst (λ q. IsSettled q) (sym e) refl

pub still_told : (o p : Option Contents) → p ≡ option_map settled o → is_told p ≡ is_told o
still_told None p e = ap is_told e
still_told (Some s) p e = ap is_told e

told_settled : (o p : Option Contents) (P : List ℕ → Type 0) → p ≡ option_map settled o → Told o P → Told p P
told_settled None p P e told = subst (λ q. Told q P) (sym e) tt
told_settled (Some s) p P e told = subst (λ q. Told q P) (sym e) told

module _ (a b p q : Option Contents) (is_p : p ≡ option_map settled a) (is_q : q ≡ option_map settled b) where
  fits_at : (side : Option Side) (j : Journal) → FitsAt side j a b → FitsAt side j p q
  fits_at None j (of_a, of_b, generation, count, size) =
      (told_settled a p (λ xs. IsOlder 0 (look xs)) is_p of_a, told_settled b q (λ ys. IsOlder 0 (look ys)) is_q of_b, generation, count, size)
  fits_at (Some A) j (of_a, of_b) = (told_settled a p (Holds j) is_p of_a, told_settled b q (λ ys. IsOlder j.generation (look ys)) is_q of_b)
  fits_at (Some B) j (of_b, of_a) = (told_settled b q (Holds j) is_q of_b, told_settled a p (λ xs. IsOlder j.generation (look xs)) is_p of_a)

  pub still_fits : (j : Journal) → Fits j a b → Fits j p q
  still_fits j fits = record { room = fits.room; within = fits.within; disks = fits_at j.active j fits.disks }

now_of : (s : Contents) (xs : List ℕ) → Some (fresh s.now) ≡ Some (fresh xs) → s.now ≡ xs
now_of s xs e = let same : fresh s.now ≡ fresh xs = cc (e) in ap (λ (c : Contents). c.now) same

pub both_now : (a b p q : Option Contents) (P : List ℕ → List ℕ → Type 0) → p ≡ option_map settled a → q ≡ option_map settled b → BothTold a b P
    → (xs ys : List ℕ) → p ≡ Some (fresh xs) → q ≡ Some (fresh ys) → P xs ys
both_now None b p q P is_p is_q both xs ys e_p e_q = absurd (cc (sym is_p ∙ e_p))
both_now (Some s) None p q P is_p is_q both xs ys e_p e_q = absurd (cc (sym is_q ∙ e_q))
both_now (Some s) (Some t) p q P is_p is_q both xs ys e_p e_q =
    subst (λ l. P l ys) (now_of s xs (sym is_p ∙ e_p)) (subst (λ l. P s.now l) (now_of t ys (sym is_q ∙ e_q)) both)

pub both_any : (a b : Option Contents) → BothTold a b (λ xs ys. Unit {0})
both_any None b = tt
both_any (Some s) None = tt
both_any (Some s) (Some t) = tt

-- where no image was found there is none
pub none_stored : (o : Opened) (r : Result (Option Stored) Spot) → o.image ≡ None → Stands o r → r ≡ Ok None
none_stored o (Err spot) none stands = absurd stands
none_stored o (Ok None) none stands = refl
none_stored o (Ok (Some s)) none stands = let some = stands.image in absurd (cc (ap (option_map image_view) none, some))

pub sync_keeps : {T E : Type 0} (r : Result T E) (o p : Option Contents) → OnOk r (p ≡ option_map settled o) → OnErr r (p ≡ o) → (xs : List ℕ) → o ≡ Some (fresh xs) → p ≡ Some (fresh xs)
sync_keeps (Ok x) o p done failed xs was = still_fresh o p xs done was
sync_keeps (Err e) o p done failed xs was = failed ∙ was

pub sync_tells : {T E : Type 0} (r : Result T E) (o p : Option Contents) → OnOk r (p ≡ option_map settled o) → OnErr r (p ≡ o) → is_told p ≡ is_told o
sync_tells (Ok x) o p done failed = still_told o p done
sync_tells (Err e) o p done failed = ap is_told failed

-- two disks that are as they were hold what they held
pub kept_held : (a b : Option Contents) (xs ys : List ℕ) (s : State) → a ≡ Some (fresh xs) → b ≡ Some (fresh ys) → held xs ys ≡ Ok s → CrashHolds a b (λ t. t ≡ run_out changed s)
kept_held a b xs ys s is_a is_b holds =
    let calm_a : IsSettled a = subst (λ o. IsSettled o) (sym is_a) refl in
    let calm_b : IsSettled b = subst (λ o. IsSettled o) (sym is_b) refl in
    held_now a b s calm_a calm_b (λ c d is_c is_d.
    let same_a : xs ≡ c = same_told a xs c is_a is_c in
    let same_b : ys ≡ d = same_told b ys d is_b is_d in
    sym (ap (λ (l : List ℕ). held l d) same_a) ∙ sym (ap (λ (l : List ℕ). held xs l) same_b) ∙ holds ∙ ap Ok (sym (idle_out s (held_idle xs ys s holds))))

-- a machine that two disks hold, in which no task waits
pub opened_hold : (s : State) (a b : Option Contents) → s.queue ≡ [] → ((xs ys : List ℕ) → a ≡ Some (fresh xs) → b ≡ Some (fresh ys) → held xs ys ≡ Ok s) → Hold a b s
opened_hold s a b idle holds = λ xs ys is_a is_b. holds xs ys is_a is_b ∙ ap Ok (sym (idle_out s idle))

pub opened_durable : (m : DurableMachine) (j : Journal) (a b : Option Contents) → m.journal ≡ j → j.active ≢ None → Fits j a b → m.machine.finished ≡ j.count → m.machine.queue ≡ [] → IsSettled a → IsSettled b
    → ((xs ys : List ℕ) → a ≡ Some (fresh xs) → b ≡ Some (fresh ys) → held xs ys ≡ Ok m.machine) → ((xs ys : List ℕ) → a ≡ Some (fresh xs) → b ≡ Some (fresh ys) → IsMigrated (stored xs ys)) → IsDurable m a b
opened_durable m j a b journal active fits count idle calm_a calm_b holds migrated = record {
  active = rw journal active;
  fits = rw journal fits;
  count = omega (arith, ap (λ (i : Journal). i.count) journal, count, ap length idle);
  settled_a = calm_a;
  settled_b = calm_b;
  holds = opened_hold m.machine a b idle holds;
  migrated = both_from a b (λ xs ys. IsMigrated (stored xs ys)) calm_a calm_b migrated;
}

-- where an image was found, a disk is active
some_active : (image : Option ImageRows) (none active : Type 0) (state counts : ImageRows → Type 0) → is_some image ≡ true
    → MatchOption image none (λ rows. active × state rows × counts rows) → active
some_active None none active state counts some ready = absurd (cc (some))
some_active (Some rows) none active state counts some ready = ready.0

pub ready_active : (o : Opened) → is_some o.image ≡ true → IsReady o → o.journal.active ≢ None
ready_active o some ready =
    some_active o.image ((o.journal.active ≡ None) × (o.journal.count ≡ 0)) (o.journal.active ≢ None) (λ rows. IsState (image_view rows)) (λ rows. o.journal.count ≡ rows.changes + length o.changes.items) some ready
