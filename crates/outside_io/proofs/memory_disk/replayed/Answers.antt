use Rattle.std.proofs.Common.{rules, ◌≡◌, ◌∙◌, ◌+◌, ◌∷◌, List, ℕ, map, drop, sym, ap, arith}
use Rattle.std.proofs.lemmas.List.{drop_more}
use Rattle.outside_io.specs.Disks.{fresh}
use Rattle.outside_io.specs.MemoryDisk.{kept_of, step, crashed}
use Rattle.outside_io.specs.declared.memory_disk.DiskCall.{DiskCall}
use Rattle.outside_io.proofs.memory_disk.replayed.Goals as goal

pub loop-call-init : goal.loop-call-init
loop-call-init c =
    let first = c.args.first.now in
    let one : c.in_ok-now.now.items ≡ first = search rules in
    let two : c.in_ok-crash.crash.items ≡ first = search rules in
    (fresh first, one, ap (λ (l : List ℕ). crashed c.args.kept (fresh first) l c.args.kept (map kept_of c.args.calls.now)) (sym two))

pub loop-call-preserved : goal.loop-call-preserved
loop-call-preserved c =
    let (s, now, all) = c.loop-call.invariant in
    let calls = c.args.calls.now in
    let i = c.loop-call.call-index in
    let call = c.call-item.result in
    let split : drop i calls ≡ call ∷ drop (i + 1) calls = drop_more calls i call (omega arith) ∙ ap (λ (x : DiskCall). x ∷ drop (i + 1) calls) (sym c.call-item.is) in
    let moved = c.in_ok-replay.ensures s now in
    (step (kept_of call) s, moved.0, all ∙ ap (λ (l : List DiskCall). crashed c.args.kept s c.loop-call.crash.items c.loop-call.left (map kept_of l)) split ∙ moved.1 (map kept_of (drop (i + 1) calls)))
