use Rattle.std.proofs.Common.{◌≡◌, ◌∙◌, ℕ, List, Some, Ok, refl, sym, ap, subst, arith}
use Rattle.change_journal.specs.Opens.{Stands}
use Rattle.change_journal.specs.declared.journal.Journal.{Journal}
use Rattle.outside_io.specs.Disks.{fresh}
use Rattle.change_journal.specs.declared.opening.JournalFault.TheVariants.{Damaged}
use Rattle.queued_changes.specs.Machine.{run_out}
use Rattle.named_indexes.specs.Changes.{changed}
use Rattle.durable_machine.specs.Held.{held}
use Rattle.durable_machine.specs.Durable.{CrashHolds, IsFirst}
use Rattle.durable_machine.proofs.Crash.{crash_now}
use Rattle.durable_machine.proofs.Reopening.{told_damage}
use Rattle.durable_machine.proofs.Syncs.{kept_held, opened_durable, opened_hold}
use Rattle.durable_machine.proofs.Versions.{current_active, current_migrated, old_few, old_to_be_made, ready_none}
use Rattle.durable_machine.proofs.machine.DurableMachine.opened.Goals as goal

pub returns-in-Err-clause-damaged : goal.returns-in-Err-clause-damaged
returns-in-Err-clause-damaged g c = λ disk place found e xs ys is_a is_b.
    let same : c.in-Err.fault ≡ Damaged disk place found = cc (e) in
    told_damage (g.K.Disk.contents c.args.disk_a.now) (g.K.Disk.contents c.args.disk_b.now) c.in-Err.fault disk place found xs ys c.in-Err.ensures.stored same is_a is_b

pub returns-in-Ok-checkpoint_of_all-clause-crash_now : goal.returns-in-Ok-checkpoint_of_all-clause-crash_now
returns-in-Ok-checkpoint_of_all-clause-crash_now g c =
    crash_now c.checkpoint_of_all.new.self (g.K.Disk.contents c.checkpoint_of_all.new.disk_a) (g.K.Disk.contents c.checkpoint_of_all.new.disk_b) c.in-Ok-checkpoint_of_all.ensures.durable

pub returns-in-Err-clause-kept : goal.returns-in-Err-clause-kept
returns-in-Err-clause-kept g c = λ xs ys s is_a is_b holds.
    kept_held (g.K.Disk.contents c.read_and_sync.new.disk_a) (g.K.Disk.contents c.read_and_sync.new.disk_b) xs ys s (c.read_and_sync.ensures.kept_a xs is_a) (c.read_and_sync.ensures.kept_b ys is_b) holds

pub returns-in-Err-clause-untouched : goal.returns-in-Err-clause-untouched
returns-in-Err-clause-untouched g c = λ xs ys is_a is_b some. (c.read_and_sync.ensures.kept_a xs is_a ∙ sym is_a, c.read_and_sync.ensures.kept_b ys is_b ∙ sym is_b)

pub returns-in-Err-make_again-clause-kept : goal.returns-in-Err-make_again-clause-kept
returns-in-Err-make_again-clause-kept g c = λ xs ys s is_a is_b holds.
    kept_held (g.K.Disk.contents c.read_and_sync.new.disk_a) (g.K.Disk.contents c.read_and_sync.new.disk_b) xs ys s (c.read_and_sync.ensures.kept_a xs is_a) (c.read_and_sync.ensures.kept_b ys is_b) holds

pub returns-in-Err-make_again-clause-untouched : goal.returns-in-Err-make_again-clause-untouched
returns-in-Err-make_again-clause-untouched g c = λ xs ys is_a is_b some. (c.read_and_sync.ensures.kept_a xs is_a ∙ sym is_a, c.read_and_sync.ensures.kept_b ys is_b ∙ sym is_b)

pub returns-then-not-is_old-clause-durable : goal.returns-then-not-is_old-clause-durable
returns-then-not-is_old-clause-durable g c =
    let made = c.in-Ok-make_again.ensures in
    let a = g.K.Disk.contents c.read_and_sync.new.disk_a in
    let b = g.K.Disk.contents c.read_and_sync.new.disk_b in
    let current = c.if-not-is_old.ensures.current refl in
    opened_durable c.in-Ok-make_again.made c.in-Ok.opened.journal a b
    made.journal (current_active c.in-Ok.opened current c.in-Ok.ensures.ready) c.in-Ok.ensures.fits made.counted made.idle c.in-Ok.ensures.settled_a c.in-Ok.ensures.settled_b
    (λ xs ys is_a is_b. made.held xs ys (c.in-Ok.ensures.now xs ys is_a is_b))
    (λ xs ys is_a is_b. current_migrated c.in-Ok.opened a b xs ys c.in-Ok.ensures.ready c.in-Ok.ensures.fits is_a is_b (c.in-Ok.ensures.now xs ys is_a is_b) current)

pub returns-then-not-is_old-clause-crash_now : goal.returns-then-not-is_old-clause-crash_now
returns-then-not-is_old-clause-crash_now g c =
    crash_now c.in-Ok-make_again.made (g.K.Disk.contents c.read_and_sync.new.disk_a) (g.K.Disk.contents c.read_and_sync.new.disk_b) (returns-then-not-is_old-clause-durable g c)

pub returns-in-Err-checkpoint_of_all-clause-kept : goal.returns-in-Err-checkpoint_of_all-clause-kept
returns-in-Err-checkpoint_of_all-clause-kept g c = λ xs ys s is_a is_b was.
    let made = c.in-Ok-make_again.ensures in
    let machine = c.in-Ok-make_again.made.machine in
    let a = g.K.Disk.contents c.read_and_sync.new.disk_a in
    let b = g.K.Disk.contents c.read_and_sync.new.disk_b in
    let holds : (xs ys : List ℕ) → a ≡ Some (fresh xs) → b ≡ Some (fresh ys) → held xs ys ≡ Ok machine = λ xs ys is_a is_b. made.held xs ys (c.in-Ok.ensures.now xs ys is_a is_b) in
    let same : machine ≡ s = cc (holds xs ys (c.read_and_sync.ensures.kept_a xs is_a) (c.read_and_sync.ensures.kept_b ys is_b), was) in
    subst (λ u. CrashHolds (g.K.Disk.contents c.checkpoint_of_all.new.disk_a) (g.K.Disk.contents c.checkpoint_of_all.new.disk_b) (λ t. t ≡ run_out changed u)) same
    (c.in-Err-checkpoint_of_all.ensures.kept (opened_hold machine a b made.idle holds))

pub returns-then-not-is_old-clause-first : goal.returns-then-not-is_old-clause-first
returns-then-not-is_old-clause-first g c = λ xs ys is_a is_b none.
    let stands = subst (λ r. Stands c.in-Ok.opened r) none (c.in-Ok.ensures.now xs ys (c.read_and_sync.ensures.kept_a xs is_a) (c.read_and_sync.ensures.kept_b ys is_b)) in
    absurd ((c.if-not-is_old.ensures.current refl).0 stands.image)

pub checkpoint_of_all-requires-clause-few : goal.checkpoint_of_all-requires-clause-few
checkpoint_of_all-requires-clause-few g c =
    let few = old_few c.in-Ok.opened (g.K.Disk.contents c.read_and_sync.new.disk_a) (g.K.Disk.contents c.read_and_sync.new.disk_b) c.in-Ok.ensures.ready c.in-Ok.ensures.fits
    (c.if-not-is_old.ensures.old refl) in
    omega (arith, few, ap (λ (j : Journal). j.generation) c.in-Ok-make_again.ensures.journal)

pub returns-in-Ok-checkpoint_of_all-clause-untouched : goal.returns-in-Ok-checkpoint_of_all-clause-untouched
returns-in-Ok-checkpoint_of_all-clause-untouched g c = λ xs ys is_a is_b not.
    let now_a = c.read_and_sync.ensures.kept_a xs is_a in
    let now_b = c.read_and_sync.ensures.kept_b ys is_b in
    let stands = c.in-Ok.ensures.now xs ys now_a now_b in
    absurd (not (
      (c.in-Ok-make_again.made.machine, c.in-Ok-make_again.ensures.held xs ys stands),
      old_to_be_made c.in-Ok.opened (g.K.Disk.contents c.read_and_sync.new.disk_a) (g.K.Disk.contents c.read_and_sync.new.disk_b) xs ys c.in-Ok.ensures.ready c.in-Ok.ensures.fits now_a now_b stands
          (c.if-not-is_old.ensures.old refl),
    ))

pub returns-in-Err-checkpoint_of_all-clause-untouched : goal.returns-in-Err-checkpoint_of_all-clause-untouched
returns-in-Err-checkpoint_of_all-clause-untouched g c = λ xs ys is_a is_b not.
    let now_a = c.read_and_sync.ensures.kept_a xs is_a in
    let now_b = c.read_and_sync.ensures.kept_b ys is_b in
    let stands = c.in-Ok.ensures.now xs ys now_a now_b in
    absurd (not (
      (c.in-Ok-make_again.made.machine, c.in-Ok-make_again.ensures.held xs ys stands),
      old_to_be_made c.in-Ok.opened (g.K.Disk.contents c.read_and_sync.new.disk_a) (g.K.Disk.contents c.read_and_sync.new.disk_b) xs ys c.in-Ok.ensures.ready c.in-Ok.ensures.fits now_a now_b stands
          (c.if-not-is_old.ensures.old refl),
    ))

pub returns-in-Ok-checkpoint_of_all-clause-first : goal.returns-in-Ok-checkpoint_of_all-clause-first
returns-in-Ok-checkpoint_of_all-clause-first g c = λ xs ys is_a is_b none.
    let now_a = c.read_and_sync.ensures.kept_a xs is_a in
    let now_b = c.read_and_sync.ensures.kept_b ys is_b in
    let stands = subst (λ r. Stands c.in-Ok.opened r) none (c.in-Ok.ensures.now xs ys now_a now_b) in
    let active = ap (λ (j : Journal). j.active) c.in-Ok-make_again.ensures.journal ∙ ready_none c.in-Ok.opened stands.image c.in-Ok.ensures.ready in (
      subst (λ s. IsFirst s (g.K.Disk.contents c.checkpoint_of_all.new.disk_a)) (sym c.checkpoint_of_all.ensures.machine) (c.in-Ok-checkpoint_of_all.ensures.made active xs now_a),
      ap (λ d. g.K.Disk.contents d) (c.checkpoint_of_all.ensures.other active) ∙ now_b ∙ sym is_b,
    )
