use Rattle.durable_machine.proofs.Syncs.{sync_keeps, sync_tells}
use Rattle.durable_machine.proofs.recording.sync_one.Goals as goal

pub returns-clause-kept : goal.returns-clause-kept
returns-clause-kept g c = sync_keeps c.sync.result (g.K.Disk.contents c.args.disk.now) (g.K.Disk.contents c.sync.new.self) c.sync.ensures.synced c.sync.ensures.failed

pub returns-clause-told : goal.returns-clause-told
returns-clause-told g c = sync_tells c.sync.result (g.K.Disk.contents c.args.disk.now) (g.K.Disk.contents c.sync.new.self) c.sync.ensures.synced c.sync.ensures.failed
