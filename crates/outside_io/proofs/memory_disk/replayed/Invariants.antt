use Rattle.std.proofs.Common.{◌≡◌, map, drop}
use Rattle.outside_io.specs.Disks.{Contents, fresh}
use Rattle.outside_io.specs.MemoryDisk.{kept_of, crashed}
use Rattle.outside_io.proofs.memory_disk.replayed.Given as goal

abbrev pub invariant-loop-call : goal.invariant-loop-call
invariant-loop-call l = (s : Contents) × (l.now.items ≡ s.now)
    × (crashed l.kept (fresh l.first) l.first l.kept (map kept_of l.calls) ≡ crashed l.kept s l.crash.items l.left (map kept_of (drop l.call-index l.calls)))
