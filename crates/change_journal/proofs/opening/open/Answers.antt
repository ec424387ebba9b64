use Rattle.std.proofs.Common.{rules, ◌≡◌, List, ℕ, Some, Ok, subst}
use Rattle.outside_io.specs.Disks.{Told}
use Rattle.change_journal.specs.Format.{active_of}
use Rattle.change_journal.specs.Opens.{AnswersAll, IsChoice}
use Rattle.change_journal.specs.declared.journal.Side.TheVariants.{A, B}
use Rattle.change_journal.proofs.Choosing.{told_first_bad, told_second_bad, told_twins, told_none, told_first, told_second}
use Rattle.change_journal.proofs.Left.{only_fresh}
use Rattle.change_journal.proofs.Runs.{left_of, started}
use Rattle.change_journal.proofs.opening.open.Goals as goal

pub returns-in-Err-clause-stored : goal.returns-in-Err-clause-stored
returns-in-Err-clause-stored g c = told_first_bad (g.K.Disk.contents c.args.disk_a.now) (g.K.Disk.contents c.args.disk_b.now) c.in-Err.fault c.in-Err.ensures.front

pub returns-in-Err-clause-any_moment_b : goal.returns-in-Err-clause-any_moment_b
returns-in-Err-clause-any_moment_b g c =
    λ xs was. let P : List ℕ → Type 0 = λ f. f ≡ xs in
    started g.K.Disk.moment g.K.Disk.left_since c.args.disk_b.now P (λ f left. only_fresh xs f (left_of f was (g.met.K.Disk.only_now c.args.disk_b.now f left)))

pub returns-in-Err-read_front-clause-stored : goal.returns-in-Err-read_front-clause-stored
returns-in-Err-read_front-clause-stored g c =
    told_second_bad (g.K.Disk.contents c.args.disk_a.now) (g.K.Disk.contents c.args.disk_b.now) c.in-Ok.first c.in-Err-read_front.fault c.in-Ok.ensures.front c.in-Err-read_front.ensures.front

pub returns-in-Err-active_front-clause-stored : goal.returns-in-Err-active_front-clause-stored
returns-in-Err-active_front-clause-stored g c =
    told_twins (g.K.Disk.contents c.args.disk_a.now) (g.K.Disk.contents c.args.disk_b.now) c.in-Ok.first c.in-Ok-read_front.second c.in-Err-active_front.fault
    c.in-Err-active_front.ensures c.in-Ok.ensures.front c.in-Ok-read_front.ensures.front

pub returns-in-Ok-None-clause-stored : goal.returns-in-Ok-None-clause-stored
returns-in-Ok-None-clause-stored g c =
    told_none (g.K.Disk.contents c.args.disk_a.now) (g.K.Disk.contents c.args.disk_b.now) c.in-Ok.first c.in-Ok-read_front.second c.none_opened.result
    (rw c.in-Ok-None.field-0-is at c.in-Ok-None.ensures) c.none_opened.ensures.none c.in-Ok.ensures.front c.in-Ok-read_front.ensures.front

pub returns-in-Ok-Some-A-default-clause-stored : goal.returns-in-Ok-Some-A-default-clause-stored
returns-in-Ok-Some-A-default-clause-stored g c =
    let f = c.in-Ok-Some-A-default.front in
    let choice : IsChoice c.in-Ok.first c.in-Ok-read_front.second (Ok (Some (A, f))) =
    rw c.in-Ok-Some-A-default.front-is at rw c.in-Ok-Some-A-default.field-0-0-0-is at rw c.in-Ok-Some-A-default.field-0-is at c.in-Ok-Some-A-default.ensures in
    told_first c.open_active.result c.in-Ok.first c.in-Ok-read_front.second f (g.K.Disk.contents c.args.disk_a.now) (g.K.Disk.contents c.args.disk_b.now) choice
    (subst (λ o. Told o (λ xs. AnswersAll c.open_active.result (active_of 0 f.generation f.size xs))) c.read_front.ensures.contents c.open_active.ensures.stored)
    c.in-Ok.ensures.front c.in-Ok-read_front.ensures.front

pub returns-in-Ok-Some-B-default-clause-stored : goal.returns-in-Ok-Some-B-default-clause-stored
returns-in-Ok-Some-B-default-clause-stored g c =
    let f = c.in-Ok-Some-B-default.front in
    let h = c.in-Ok-Some-B-default.field-0-is in
    let k = c.in-Ok-Some-B-default.field-0-0-0-is in
    let m = c.in-Ok-Some-B-default.front-is in
    let e = c.in-Ok-Some-B-default.ensures in
    let choice : IsChoice c.in-Ok.first c.in-Ok-read_front.second (Ok (Some (B, f))) = search rules in
    told_second c.open_active-in-Ok-Some-B-default.result c.in-Ok.first c.in-Ok-read_front.second f (g.K.Disk.contents c.args.disk_a.now) (g.K.Disk.contents c.args.disk_b.now) choice
    (subst (λ o. Told o (λ ys. AnswersAll c.open_active-in-Ok-Some-B-default.result (active_of 1 f.generation f.size ys))) c.read_front-2.ensures.contents c.open_active-in-Ok-Some-B-default.ensures.stored)
    c.in-Ok.ensures.front c.in-Ok-read_front.ensures.front
