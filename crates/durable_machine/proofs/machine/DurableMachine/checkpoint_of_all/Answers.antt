use Rattle.std.proofs.Common.{◌≡◌, ◌∙◌, ◌+◌, ℕ, List, [], ◌∷◌, Option, Some, ap, subst, arith}
use Rattle.outside_io.specs.Disks.{fresh}
use Rattle.change_journal.specs.Format.{version_of}
use Rattle.change_journal.specs.Fits.{FitsAt, disk_on, next_side}
use Rattle.change_journal.specs.First.{First, journal_bytes}
use Rattle.change_journal.specs.Shut.{image_disk}
use Rattle.change_journal.specs.declared.journal.Side.{Side}
use Rattle.durable_machine.proofs.Crash.{held_now}
use Rattle.durable_machine.proofs.machine.DurableMachine.checkpoint_of_all.Goals as goal

pub returns-in-Err-clause-kept : goal.returns-in-Err-clause-kept
returns-in-Err-clause-kept g c = λ holds. held_now (g.K.Disk.contents c.args.disk_a.now) (g.K.Disk.contents c.args.disk_b.now) c.args.self.now.machine c.requires.settled_a c.requires.settled_b holds

pub checkpoint-requires-clause-version : goal.checkpoint-requires-clause-version
checkpoint-requires-clause-version g c = ap version_of (c.deref.ensures.value ∙ c.in-Ok.ensures.version.1)

pub returns-in-Ok-checkpoint-clause-made : goal.returns-in-Ok-checkpoint-clause-made
returns-in-Ok-checkpoint-clause-made g c = λ none xs was.
    let j = c.args.self.now.journal in
    let image = c.in-Ok.image.items in
    let slice = c.deref.result.now in
    let a = c.args.disk_a.now in
    let b = c.args.disk_b.now in
    let here = subst (λ s. FitsAt s j (g.K.Disk.contents a) (g.K.Disk.contents b)) none c.requires.fits.disks in
    let one : j.generation + 1 ≡ 1 = omega (arith, here.2) in
    let made = subst (λ (s : Option Side). (ys : List ℕ) → g.K.Disk.contents (disk_on (next_side s) a b) ≡ Some (fresh ys)
    → g.K.Disk.contents (disk_on (next_side s) c.checkpoint.new.disk_a c.checkpoint.new.disk_b) ≡ Some (fresh (1 ∷ image_disk (j.generation + 1) slice (journal_bytes c.new-first.result.number c.new-first.result.payloads))))
    none c.in-Ok-checkpoint.ensures.made in
    let empty = ap (λ (f : First). journal_bytes f.number f.payloads) c.new-first.ensures in
    let first = made xs was ∙ ap (λ (l : List ℕ). Some (fresh (1 ∷ image_disk (j.generation + 1) slice l))) empty
    ∙ ap (λ (n : ℕ). Some (fresh (1 ∷ image_disk n slice (0 ∷ [])))) one in
    (image, c.in-Ok.ensures.state, first ∙ ap (λ (l : List ℕ). Some (fresh (1 ∷ image_disk 1 l (0 ∷ [])))) c.deref.ensures.value)

pub returns-in-Ok-checkpoint-clause-other : goal.returns-in-Ok-checkpoint-clause-other
returns-in-Ok-checkpoint-clause-other g c = λ none.
    subst (λ (s : Option Side). disk_on (next_side s) c.checkpoint.new.disk_b c.checkpoint.new.disk_a ≡ disk_on (next_side s) c.args.disk_b.now c.args.disk_a.now) none c.checkpoint.ensures.other
