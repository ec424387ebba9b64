use Rattle.std.proofs.Common.{arith}
use Rattle.durable_machine.proofs.Sides.{left_before}
use Rattle.durable_machine.proofs.Crash.{counted_image, image_held, torn_image}
use Rattle.durable_machine.proofs.Payloads.{as_many}
use Rattle.durable_machine.proofs.Versions.{image_migrated}
use Rattle.durable_machine.proofs.recording.checkpoint.Goals as goal

pub returns-in-Ok-clause-durable : goal.returns-in-Ok-clause-durable
returns-in-Ok-clause-durable g c = λ s spelled are. record {
  active = λ e. absurd (cc (c.in-Ok.ensures.active c.requires.few, e));
  fits = c.in-Ok.ensures.fits;
  count = omega (
    arith,
    c.checkpoint.ensures.count,
    c.requires.held,
    counted_image c.args.image.now c.args.first.now.number s c.requires.image spelled,
    as_many s.finished c.args.first.now.payloads s.queue are,
  );
  settled_a = c.in-Ok.ensures.settled_a c.requires.settled_a;
  settled_b = c.in-Ok.ensures.settled_b c.requires.settled_b;
  holds = image_held (g.K.Disk.contents c.args.disk_a.now) (g.K.Disk.contents c.args.disk_b.now) (g.K.Disk.contents c.checkpoint.new.disk_a) (g.K.Disk.contents c.checkpoint.new.disk_b)
      c.checkpoint.ensures.told_a c.checkpoint.ensures.told_b c.requires.settled_a c.requires.settled_b c.args.image.now c.args.first.now.payloads s
      (c.in-Ok.ensures.now c.requires.few) spelled are;
  migrated = image_migrated (g.K.Disk.contents c.args.disk_a.now) (g.K.Disk.contents c.args.disk_b.now) (g.K.Disk.contents c.checkpoint.new.disk_a) (g.K.Disk.contents c.checkpoint.new.disk_b)
      c.checkpoint.ensures.told_a c.checkpoint.ensures.told_b c.requires.settled_a c.requires.settled_b (c.in-Ok.ensures.settled_a c.requires.settled_a) (c.in-Ok.ensures.settled_b c.requires.settled_b)
      c.args.image.now c.args.first.now.payloads (c.in-Ok.ensures.now c.requires.few) c.requires.version;
}

pub returns-in-Err-clause-crash : goal.returns-in-Err-clause-crash
returns-in-Err-clause-crash g c = λ s spelled are holds xs ys left_a left_b.
    let told_a = left_before (g.K.Disk.contents c.args.disk_a.now) (g.K.Disk.contents c.checkpoint.new.disk_a) c.checkpoint.ensures.told_a c.requires.settled_a xs left_a in
    let told_b = left_before (g.K.Disk.contents c.args.disk_b.now) (g.K.Disk.contents c.checkpoint.new.disk_b) c.checkpoint.ensures.told_b c.requires.settled_b ys left_b in
    let run = c.checkpoint.ensures.any_moment told_a.0 told_b.0 told_a.1 told_b.1 in
    torn_image told_a.0 told_b.0 xs ys c.args.image.now c.args.first.now.payloads s (holds told_a.0 told_b.0 told_a.1 told_b.1) spelled are
    (run.each xs ys (g.met.K.Disk.counts_now c.checkpoint.new.disk_a _ xs run.later_a left_a) (g.met.K.Disk.counts_now c.checkpoint.new.disk_b _ ys run.later_b left_b))
