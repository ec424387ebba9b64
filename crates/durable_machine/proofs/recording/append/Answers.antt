use Rattle.std.proofs.Common.{sym, ◌∙◌, arith}
use Rattle.queued_changes.specs.Machine.{run_out}
use Rattle.named_indexes.specs.Changes.{changed}
use Rattle.durable_machine.proofs.Sides.{left_before}
use Rattle.durable_machine.proofs.Settled.{out_counts, out_queue, redone_counts}
use Rattle.durable_machine.proofs.Crash.{change_held, torn_change}
use Rattle.durable_machine.proofs.Versions.{change_migrated}
use Rattle.durable_machine.proofs.recording.append.Goals as goal

pub returns-in-Ok-clause-durable : goal.returns-in-Ok-clause-durable
returns-in-Ok-clause-durable g c = λ s t was made. record {
  active = λ e. was.active (sym c.append.ensures.active ∙ e);
  fits = c.in-Ok.ensures.fits;
  count = let more = redone_counts (run_out changed s) c.args.entry.payload (run_out changed t) (out_queue s) made in
      omega (arith, c.in-Ok.ensures.count, was.count, more, out_counts s, out_counts t);
  settled_a = c.in-Ok.ensures.settled_a was.settled_a;
  settled_b = c.in-Ok.ensures.settled_b was.settled_b;
  holds = change_held (g.K.Disk.contents c.args.disk_a.now) (g.K.Disk.contents c.args.disk_b.now) (g.K.Disk.contents c.append.new.disk_a) (g.K.Disk.contents c.append.new.disk_b)
      c.append.ensures.told_a c.append.ensures.told_b was.settled_a was.settled_b c.args.entry.payload s t c.in-Ok.ensures.now was.holds made;
  migrated = change_migrated (g.K.Disk.contents c.args.disk_a.now) (g.K.Disk.contents c.args.disk_b.now) (g.K.Disk.contents c.append.new.disk_a) (g.K.Disk.contents c.append.new.disk_b)
      c.append.ensures.told_a c.append.ensures.told_b was.settled_a was.settled_b (c.in-Ok.ensures.settled_a was.settled_a) (c.in-Ok.ensures.settled_b was.settled_b)
      c.args.entry.payload c.args.journal.now c.append.new.self c.in-Ok.ensures.now c.requires.fits c.in-Ok.ensures.fits c.requires.active c.append.ensures.active c.append.ensures.generation was.migrated;
}

pub returns-in-Err-clause-crash : goal.returns-in-Err-clause-crash
returns-in-Err-clause-crash g c = λ s t was made xs ys left_a left_b.
    let told_a = left_before (g.K.Disk.contents c.args.disk_a.now) (g.K.Disk.contents c.append.new.disk_a) c.append.ensures.told_a was.settled_a xs left_a in
    let told_b = left_before (g.K.Disk.contents c.args.disk_b.now) (g.K.Disk.contents c.append.new.disk_b) c.append.ensures.told_b was.settled_b ys left_b in
    let run = c.append.ensures.any_moment told_a.0 told_b.0 told_a.1 told_b.1 in
    torn_change told_a.0 told_b.0 xs ys c.args.entry.payload (run_out changed s) (run_out changed t) (was.holds told_a.0 told_b.0 told_a.1 told_b.1) made
    (run.each xs ys (g.met.K.Disk.counts_now c.append.new.disk_a _ xs run.later_a left_a) (g.met.K.Disk.counts_now c.append.new.disk_b _ ys run.later_b left_b))
