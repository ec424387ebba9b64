use Rattle.std.proofs.Common.{rules, ◌≡◌, ◌∙◌, ◌+◌, ◌<◌, ◌^◌, List, ℕ, length, sym, refl, subst, ap, arith, ◌∷◌}
use Rattle.std.specs.Prelude.{Some}
use Rattle.outside_io.specs.Disks.{fresh}
use Rattle.change_journal.specs.First.{journal_bytes}
use Rattle.change_journal.specs.Fits.{Holds}
use Rattle.change_journal.specs.Shut.{image_disk}
use Rattle.change_journal.proofs.Both.{told_map}
use Rattle.change_journal.proofs.Checkpoints.{image_holds, now_made}
use Rattle.change_journal.proofs.Firsts.{long_journal}
use Rattle.change_journal.proofs.journal.Journal.checkpoint_on.Goals as goal

pub returns-clause-holds : goal.returns-clause-holds
returns-clause-holds g c =
    let short : length c.args.image.now < 2 ^ 64 = search rules in
    let first = c.args.first.now in
    let next = c.args.self.now.generation + 1 in
    let bytes = c.bytes-journal.ensures.bytes in
    let long : length c.bytes-journal.result.now ≡ length (journal_bytes first.number first.payloads) = ap length bytes in
    told_map (g.K.Disk.contents c.remake.new.disk) (λ zs. zs ≡ 1 ∷ image_disk next c.args.image.now c.bytes-journal.result.now) (Holds _)
    (λ zs is. subst (Holds _) (sym (is ∙ ap (λ (l : List ℕ). 1 ∷ image_disk next c.args.image.now l) bytes))
    (image_holds next c.args.image.now first.number first.payloads 0 (omega arith) (omega (arith, c.requires.few)) short c.bytes-journal.ensures.short c.bytes-journal.ensures.small _ refl
    (omega (arith, long, long_journal first.number first.payloads)) c.requires.image c.requires.held)) c.in_ok-remake.ensures.made

pub returns-clause-now : goal.returns-clause-now
returns-clause-now g c =
    λ ys was. let next = c.args.self.now.generation + 1 in
    now_made (g.K.Disk.contents c.args.disk.now) (g.K.Disk.contents c.remake.new.disk) ys (1 ∷ image_disk next c.args.image.now c.bytes-journal.result.now)
    c.in_ok-remake.ensures.alike c.in_ok-remake.ensures.settled c.in_ok-remake.ensures.made was
    ∙ ap (λ (l : List ℕ). Some (fresh (1 ∷ image_disk next c.args.image.now l))) c.bytes-journal.ensures.bytes

pub returns-clause-settled : goal.returns-clause-settled
returns-clause-settled g c = λ calm. c.in_ok-remake.ensures.settled
