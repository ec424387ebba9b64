use Rattle.std.proofs.Common.{◌∙◌, ap}
use Rattle.std.specs.Option.{option_map}
use Rattle.outside_io.specs.Disks.{settled}
use Rattle.change_journal.specs.Format.{stored}
use Rattle.change_journal.specs.Opens.{Stands}
use Rattle.durable_machine.proofs.Syncs.{still_fits, now_settled, both_now, both_any}
use Rattle.durable_machine.proofs.recording.read_and_sync.Goals as goal

pub returns-in-Ok-sync_both-clause-fits : goal.returns-in-Ok-sync_both-clause-fits
returns-in-Ok-sync_both-clause-fits g c =
    still_fits (g.K.Disk.contents c.open.new.disk_a) (g.K.Disk.contents c.open.new.disk_b) (g.K.Disk.contents c.sync_both.new.disk_a) (g.K.Disk.contents c.sync_both.new.disk_b)
    c.in-Ok-sync_both.ensures.now_a c.in-Ok-sync_both.ensures.now_b c.in-Ok.opened.journal c.in-Ok.ensures.fits

pub returns-in-Ok-sync_both-clause-now : goal.returns-in-Ok-sync_both-clause-now
returns-in-Ok-sync_both-clause-now g c =
    both_now (g.K.Disk.contents c.args.disk_a.now) (g.K.Disk.contents c.args.disk_b.now) (g.K.Disk.contents c.sync_both.new.disk_a) (g.K.Disk.contents c.sync_both.new.disk_b)
    (λ xs ys. Stands c.in-Ok.opened (stored xs ys))
    (c.in-Ok-sync_both.ensures.now_a ∙ ap (option_map settled) c.open.ensures.contents_a) (c.in-Ok-sync_both.ensures.now_b ∙ ap (option_map settled) c.open.ensures.contents_b)
    c.in-Ok.ensures.stored

pub returns-in-Ok-sync_both-clause-settled_a : goal.returns-in-Ok-sync_both-clause-settled_a
returns-in-Ok-sync_both-clause-settled_a g c = now_settled (g.K.Disk.contents c.open.new.disk_a) (g.K.Disk.contents c.sync_both.new.disk_a) c.in-Ok-sync_both.ensures.now_a

pub returns-in-Ok-sync_both-clause-settled_b : goal.returns-in-Ok-sync_both-clause-settled_b
returns-in-Ok-sync_both-clause-settled_b g c = now_settled (g.K.Disk.contents c.open.new.disk_b) (g.K.Disk.contents c.sync_both.new.disk_b) c.in-Ok-sync_both.ensures.now_b

pub returns-in-Err-sync_both-clause-stored : goal.returns-in-Err-sync_both-clause-stored
returns-in-Err-sync_both-clause-stored g c = both_any (g.K.Disk.contents c.args.disk_a.now) (g.K.Disk.contents c.args.disk_b.now)
