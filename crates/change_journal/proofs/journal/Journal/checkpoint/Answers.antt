use Rattle.std.proofs.Common.{rules, ◌≡◌, ◌∙◌, ◌+◌, ◌<◌, ◌^◌, List, ℕ, length, inl, subst, ap, arith}
use Rattle.std.specs.Prelude.{Some, None}
use Rattle.outside_io.specs.Disks.{Told}
use Rattle.change_journal.specs.Format.{look, stored_pair}
use Rattle.change_journal.specs.First.{journal_bytes}
use Rattle.change_journal.specs.Fits.{Holds, IsOlder, FitsAt, IsOldOrImage}
use Rattle.change_journal.specs.Shut.{Remade}
use Rattle.change_journal.specs.declared.journal.Side.TheVariants.{A, B}
use Rattle.change_journal.proofs.Left.{only_fresh}
use Rattle.change_journal.proofs.Runs.{left_of}
use Rattle.change_journal.proofs.Both.{on_ok_map, first_moves, second_moves}
use Rattle.change_journal.proofs.Checkpoints.{remade_first, remade_second, remade_none, made_first, made_second, holds_older, none_older}
use Rattle.change_journal.specs.Fits.{IsSettled}
use Rattle.change_journal.proofs.Telling.{same_after}
use Rattle.change_journal.proofs.journal.Journal.checkpoint.Goals as goal

pub returns-then-self-clause-any_moment : goal.returns-then-self-clause-any_moment
returns-then-self-clause-any_moment g c =
    λ a b was_a was_b. record {
      later_a = omega arith;
      later_b = omega arith;
      each = λ x y left_x left_y.
          let ex = only_fresh a x (left_of x was_a (g.met.K.Disk.only_now c.args.disk_a.now x left_x)) in
          let ey = only_fresh b y (left_of y was_b (g.met.K.Disk.only_now c.args.disk_b.now y left_y)) in
          inl (ap (λ (l : List ℕ). stored_pair l y) ex ∙ ap (λ (l : List ℕ). stored_pair a l) ey);
    }

pub returns-in-Some-A-clause-any_moment : goal.returns-in-Some-A-clause-any_moment
returns-in-Some-A-clause-any_moment g c =
    λ a b was_a was_b. let j = c.args.self.now in
    let image = c.args.image.now in
    let first = c.args.first.now in
    let all = first.payloads in
    let records = journal_bytes first.number all in
    let act : c.args.self.now.active ≡ Some A = search rules in
    let disks = subst (λ s. FitsAt s j (g.K.Disk.contents c.args.disk_a.now) (g.K.Disk.contents c.args.disk_b.now)) act c.requires.fits.disks in
    let few : j.generation + 1 < 2 ^ 64 = search rules in
    let short : length image < 2 ^ 64 = search rules in
    let shorts = c.checkpoint_on.ensures.short in
    let small = c.checkpoint_on.ensures.small in
    let h : Holds j a = subst (λ o. Told o (Holds j)) was_a disks.0 in
    let older : IsOlder j.generation (look b) = subst (λ o. Told o (λ ys. IsOlder j.generation (look ys))) was_b disks.1 in
    second_moves g.K.Disk.moment g.K.Disk.left_since c.args.disk_a.now c.args.disk_b.now c.checkpoint_on.new.disk (g.K.Disk.contents c.args.disk_a.now) a was_a
    (g.met.K.Disk.only_now c.args.disk_a.now) (Remade j.generation (j.generation + 1) image records) (c.checkpoint_on.ensures.any_moment b was_b) (λ x y. IsOldOrImage image all (stored_pair a b) (stored_pair x y))
    (λ x left. remade_second j.generation first.number image all few short shorts small c.requires.image h.size a b x h.looks older left)

pub returns-in-Some-A-clause-now : goal.returns-in-Some-A-clause-now
returns-in-Some-A-clause-now g c =
    let j = c.args.self.now in
    let image = c.args.image.now in
    let first = c.args.first.now in
    let all = first.payloads in
    let records = journal_bytes first.number all in
    let act : c.args.self.now.active ≡ Some A = search rules in
    let disks = subst (λ s. FitsAt s j (g.K.Disk.contents c.args.disk_a.now) (g.K.Disk.contents c.args.disk_b.now)) act c.requires.fits.disks in
    let few : j.generation + 1 < 2 ^ 64 = search rules in
    let short : length image < 2 ^ 64 = search rules in
    let shorts = c.checkpoint_on.ensures.short in
    let small = c.checkpoint_on.ensures.small in
    on_ok_map c.checkpoint_on.result (λ now less a b was_a was_b. made_second j.generation first.number image all few short shorts small c.requires.image (g.K.Disk.contents c.args.disk_a.now) (g.K.Disk.contents c.checkpoint_on.new.disk) a was_a
    (holds_older j a (subst (λ o. Told o (Holds j)) was_a disks.0)) (now b was_b)) c.checkpoint_on.ensures.now

pub returns-in-Some-B-clause-any_moment : goal.returns-in-Some-B-clause-any_moment
returns-in-Some-B-clause-any_moment g c =
    λ a b was_a was_b. let j = c.args.self.now in
    let image = c.args.image.now in
    let first = c.args.first.now in
    let all = first.payloads in
    let records = journal_bytes first.number all in
    let act : c.args.self.now.active ≡ Some B = search rules in
    let disks = subst (λ s. FitsAt s j (g.K.Disk.contents c.args.disk_a.now) (g.K.Disk.contents c.args.disk_b.now)) act c.requires.fits.disks in
    let few : j.generation + 1 < 2 ^ 64 = search rules in
    let short : length image < 2 ^ 64 = search rules in
    let shorts = c.checkpoint_on-in-Some-B.ensures.short in
    let small = c.checkpoint_on-in-Some-B.ensures.small in
    let h : Holds j b = subst (λ o. Told o (Holds j)) was_b disks.0 in
    let older : IsOlder j.generation (look a) = subst (λ o. Told o (λ ys. IsOlder j.generation (look ys))) was_a disks.1 in
    first_moves g.K.Disk.moment g.K.Disk.left_since c.args.disk_b.now c.args.disk_a.now c.checkpoint_on-in-Some-B.new.disk (g.K.Disk.contents c.args.disk_b.now) b was_b
    (g.met.K.Disk.only_now c.args.disk_b.now) (Remade j.generation (j.generation + 1) image records) (c.checkpoint_on-in-Some-B.ensures.any_moment a was_a) (λ x y. IsOldOrImage image all (stored_pair a b) (stored_pair x y))
    (λ x left. remade_first j.generation first.number image all few short shorts small c.requires.image h.size a b x h.looks older left)

pub returns-in-Some-B-clause-now : goal.returns-in-Some-B-clause-now
returns-in-Some-B-clause-now g c =
    let j = c.args.self.now in
    let image = c.args.image.now in
    let first = c.args.first.now in
    let all = first.payloads in
    let records = journal_bytes first.number all in
    let act : c.args.self.now.active ≡ Some B = search rules in
    let disks = subst (λ s. FitsAt s j (g.K.Disk.contents c.args.disk_a.now) (g.K.Disk.contents c.args.disk_b.now)) act c.requires.fits.disks in
    let few : j.generation + 1 < 2 ^ 64 = search rules in
    let short : length image < 2 ^ 64 = search rules in
    let shorts = c.checkpoint_on-in-Some-B.ensures.short in
    let small = c.checkpoint_on-in-Some-B.ensures.small in
    on_ok_map c.checkpoint_on-in-Some-B.result (λ now less a b was_a was_b. made_first j.generation first.number image all few short shorts small c.requires.image (g.K.Disk.contents c.checkpoint_on-in-Some-B.new.disk) (g.K.Disk.contents c.args.disk_b.now) b was_b
    (holds_older j b (subst (λ o. Told o (Holds j)) was_b disks.0)) (now a was_a)) c.checkpoint_on-in-Some-B.ensures.now

pub returns-in-None-clause-any_moment : goal.returns-in-None-clause-any_moment
returns-in-None-clause-any_moment g c =
    λ a b was_a was_b. let j = c.args.self.now in
    let image = c.args.image.now in
    let first = c.args.first.now in
    let all = first.payloads in
    let records = journal_bytes first.number all in
    let act : c.args.self.now.active ≡ None = search rules in
    let disks = subst (λ s. FitsAt s j (g.K.Disk.contents c.args.disk_a.now) (g.K.Disk.contents c.args.disk_b.now)) act c.requires.fits.disks in
    let few : j.generation + 1 < 2 ^ 64 = search rules in
    let short : length image < 2 ^ 64 = search rules in
    let shorts = c.checkpoint_on-in-None.ensures.short in
    let small = c.checkpoint_on-in-None.ensures.small in
    let older_a : IsOlder 0 (look a) = subst (λ o. Told o (λ ys. IsOlder 0 (look ys))) was_a disks.0 in
    let older_b : IsOlder 0 (look b) = subst (λ o. Told o (λ ys. IsOlder 0 (look ys))) was_b disks.1 in
    first_moves g.K.Disk.moment g.K.Disk.left_since c.args.disk_b.now c.args.disk_a.now c.checkpoint_on-in-None.new.disk (g.K.Disk.contents c.args.disk_b.now) b was_b
    (g.met.K.Disk.only_now c.args.disk_b.now) (Remade j.generation (j.generation + 1) image records) (c.checkpoint_on-in-None.ensures.any_moment a was_a) (λ x y. IsOldOrImage image all (stored_pair a b) (stored_pair x y))
    (λ x left. remade_none j.generation first.number image all few short shorts small c.requires.image a b x disks.2 older_a older_b left)

pub returns-in-None-clause-now : goal.returns-in-None-clause-now
returns-in-None-clause-now g c =
    let j = c.args.self.now in
    let image = c.args.image.now in
    let first = c.args.first.now in
    let all = first.payloads in
    let records = journal_bytes first.number all in
    let act : c.args.self.now.active ≡ None = search rules in
    let disks = subst (λ s. FitsAt s j (g.K.Disk.contents c.args.disk_a.now) (g.K.Disk.contents c.args.disk_b.now)) act c.requires.fits.disks in
    let few : j.generation + 1 < 2 ^ 64 = search rules in
    let short : length image < 2 ^ 64 = search rules in
    let shorts = c.checkpoint_on-in-None.ensures.short in
    let small = c.checkpoint_on-in-None.ensures.small in
    on_ok_map c.checkpoint_on-in-None.result (λ now less a b was_a was_b. made_first j.generation first.number image all few short shorts small c.requires.image (g.K.Disk.contents c.checkpoint_on-in-None.new.disk) (g.K.Disk.contents c.args.disk_b.now) b was_b
    (none_older j.generation b (subst (λ o. Told o (λ ys. IsOlder 0 (look ys))) was_b disks.1)) (now a was_a)) c.checkpoint_on-in-None.ensures.now

pub returns-in-Some-A-clause-settled_a : goal.returns-in-Some-A-clause-settled_a
returns-in-Some-A-clause-settled_a g c = same_after c.checkpoint_on.result (IsSettled (g.K.Disk.contents c.args.disk_a.now))

pub returns-in-Some-B-clause-settled_b : goal.returns-in-Some-B-clause-settled_b
returns-in-Some-B-clause-settled_b g c = same_after c.checkpoint_on-in-Some-B.result (IsSettled (g.K.Disk.contents c.args.disk_b.now))

pub returns-in-None-clause-settled_b : goal.returns-in-None-clause-settled_b
returns-in-None-clause-settled_b g c = same_after c.checkpoint_on-in-None.result (IsSettled (g.K.Disk.contents c.args.disk_b.now))
