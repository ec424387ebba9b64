use Rattle.std.proofs.Common.{◌≡◌, Some, None, [], false, refl, sym, subst, ap, ◌∙◌, ◌-◌, arith, inr}
use Rattle.std.specs.Io.KnownBytes.{prepend_known}
use Rattle.std.proofs.lemmas.Bool.{false≢true}
use Rattle.durable_machine.specs.Durable.{IsDurable}
use Rattle.durable_machine.proofs.Crash.{crash_now}
use Rattle.bucket_sort.specs.Opens.{log_state}
use Rattle.search_server.specs.LinkState.{LinkState, link_state, shared_state}
use Rattle.search_server.specs.Passed.{PassedIfDue}
use Rattle.search_server.specs.Turns.{end_by}
use Rattle.search_server.proofs.Progress.{LeftBy}
use Rattle.search_server.proofs.Serving.{starts, goes_on, ends_spent, served_by, caused_by, waits_by, replied_by, went_on, ended_well, due_later, nothing_yet}
use Rattle.search_server.proofs.Telling.{turn_tells, without_kept}
use Rattle.search_server.proofs.serve.serve_link.Goals as goal

pub returns-in_default-clause-promise : goal.returns-in_default-clause-promise
returns-in_default-clause-promise g c =
    let start : LinkState = link_state g.P.Link.left g.P.Link.told g.P.Link.read_faults g.P.Link.write_faults c.args.link.now
    (shared_state g.K.Disk.contents g.K.Disk.disk_faults c.args.machine.now.machine c.args.fetches.now (log_state ((g.dyn-1.0.entry c.args.log.now.vtable).1.told c.args.log.now.value) c.args.openings.now) c.args.disk_a.now c.args.disk_b.now) in
    record {
      promise = λ bytes e. nothing_yet bytes start;
      telling = (refl, refl);
      cause = tt;
      crash = λ going. crash_now c.args.machine.now start.disk_a.contents start.disk_b.contents c.requires.durable;
      waits = λ e. absurd (false≢true e);
    }

pub loop-served-init : goal.loop-served-init
loop-served-init g c = record {
  progress = λ bytes e. starts bytes _ _ (ap (λ v. prepend_known v (g.P.Link.left c.args.link.now)) c.in-Ok.ensures ∙ ap (λ v. prepend_known [] v) e) refl refl refl refl;
  durable = c.requires.durable;
  due = λ due. inr (due, refl);
  passed_few = omega arith;
  read_later = omega arith;
  write_later = omega arith;
  left_telling = refl;
  told_telling = refl;
  told_a = refl;
  told_b = refl;
  later_a = omega arith;
  later_b = omega arith;
}

pub loop-served-preserved : goal.loop-served-preserved
loop-served-preserved g c =
    let start : LinkState = link_state g.P.Link.left g.P.Link.told g.P.Link.read_faults g.P.Link.write_faults c.args.link.now
    (shared_state g.K.Disk.contents g.K.Disk.disk_faults c.args.machine.now.machine c.args.fetches.now (log_state ((g.dyn-1.0.entry c.args.log.now.vtable).1.told c.args.log.now.value) c.args.openings.now) c.args.disk_a.now c.args.disk_b.now) in
    let old : LinkState = link_state (λ link. prepend_known c.loop-served.kept (g.P.Link.left link)) g.P.Link.told g.P.Link.read_faults g.P.Link.write_faults c.loop-served.link
    (shared_state g.K.Disk.contents g.K.Disk.disk_faults c.loop-served.machine.machine c.loop-served.fetches (log_state ((g.dyn-1.0.entry c.loop-served.log.vtable).1.told c.loop-served.log.value) c.loop-served.openings) c.loop-served.disk_a c.loop-served.disk_b) in
    let new : LinkState = link_state (λ link. prepend_known c.serve_one-turn.new.kept (g.P.Link.left link)) g.P.Link.told g.P.Link.read_faults g.P.Link.write_faults c.serve_one-turn.new.link
    (shared_state g.K.Disk.contents g.K.Disk.disk_faults c.serve_one-turn.new.machine.machine c.serve_one-turn.new.fetches (log_state ((g.dyn-1.0.entry c.serve_one-turn.new.log.vtable).1.told c.serve_one-turn.new.log.value) c.serve_one-turn.new.openings) c.serve_one-turn.new.disk_a c.serve_one-turn.new.disk_b) in
    let n = c.loop-served.served in
    let goes : end_by n c.serve_one-turn.new.passed c.serve_one-turn.result ≡ None = sym c.end.ensures.turn ∙ c.in_default-end.is in
    let telling = turn_tells (1000000 - n) old new c.serve_one-turn.new.kept c.serve_one-turn.result c.serve_one-turn.ensures.turn in
    record {
      progress = λ bytes e. goes_on bytes start old new n false (c.loop-served.invariant.progress bytes e) c.loop-served-test.true
          (replied_by old new (1000000 - n) n c.serve_one-turn.new.passed c.serve_one-turn.new.kept c.serve_one-turn.result c.serve_one-turn.ensures.turn goes);
      durable = went_on n c.serve_one-turn.new.passed c.serve_one-turn.result (IsDurable c.serve_one-turn.new.machine (g.K.Disk.contents c.serve_one-turn.new.disk_a) (g.K.Disk.contents c.serve_one-turn.new.disk_b)) c.serve_one-turn.ensures.durable goes;
      due = due_later c.args.machine.now c.loop-served.machine c.serve_one-turn.new.machine c.loop-served.passed c.serve_one-turn.new.passed c.loop-served.invariant.due
          c.serve_one-turn.ensures.passed (went_on n c.serve_one-turn.new.passed c.serve_one-turn.result (PassedIfDue c.loop-served.machine c.serve_one-turn.new.machine c.serve_one-turn.new.passed) c.serve_one-turn.ensures.due goes);
      passed_few = omega (arith, c.loop-served.invariant.passed_few, c.serve_one-turn.ensures.passed_few);
      read_later = omega (arith, c.serve_one-turn.ensures.read_later);
      write_later = omega (arith, c.serve_one-turn.ensures.write_later);
      left_telling = without_kept c.loop-served.kept c.serve_one-turn.new.kept (g.P.Link.left c.loop-served.link) (g.P.Link.left c.serve_one-turn.new.link) telling.0 ∙ c.loop-served.invariant.left_telling;
      told_telling = telling.1 ∙ c.loop-served.invariant.told_telling;
      told_a = c.serve_one-turn.ensures.told_a ∙ c.loop-served.invariant.told_a;
      told_b = c.serve_one-turn.ensures.told_b ∙ c.loop-served.invariant.told_b;
      later_a = omega (arith, c.serve_one-turn.ensures.later_a);
      later_b = omega (arith, c.serve_one-turn.ensures.later_b);
    }

pub returns-in-Some-clause-durable : goal.returns-in-Some-clause-durable
returns-in-Some-clause-durable g c =
    let ends : end_by c.loop-served.served c.serve_one-turn.new.passed c.serve_one-turn.result ≡ Some c.in-Some.end = sym c.end.ensures.turn ∙ c.in-Some.is in
    ended_well c.loop-served.served c.serve_one-turn.new.passed c.serve_one-turn.result c.in-Some.end (IsDurable c.serve_one-turn.new.machine (g.K.Disk.contents c.serve_one-turn.new.disk_a) (g.K.Disk.contents c.serve_one-turn.new.disk_b)) c.serve_one-turn.ensures.durable
    ends

pub returns-in-Some-clause-due : goal.returns-in-Some-clause-due
returns-in-Some-clause-due g c = λ going.
    let ends : end_by c.loop-served.served c.serve_one-turn.new.passed c.serve_one-turn.result ≡ Some c.in-Some.end = sym c.end.ensures.turn ∙ c.in-Some.is in
    let turn = ended_well c.loop-served.served c.serve_one-turn.new.passed c.serve_one-turn.result c.in-Some.end (PassedIfDue c.loop-served.machine c.serve_one-turn.new.machine c.serve_one-turn.new.passed) c.serve_one-turn.ensures.due
    ends going in
    subst (λ passed. PassedIfDue c.args.machine.now c.serve_one-turn.new.machine passed) (sym c.in-Some.ensures.passed)
    (due_later c.args.machine.now c.loop-served.machine c.serve_one-turn.new.machine c.loop-served.passed c.serve_one-turn.new.passed c.loop-served.invariant.due
    c.serve_one-turn.ensures.passed turn)

pub returns-in-Some-clause-promise : goal.returns-in-Some-clause-promise
returns-in-Some-clause-promise g c =
    let start : LinkState = link_state g.P.Link.left g.P.Link.told g.P.Link.read_faults g.P.Link.write_faults c.args.link.now
    (shared_state g.K.Disk.contents g.K.Disk.disk_faults c.args.machine.now.machine c.args.fetches.now (log_state ((g.dyn-1.0.entry c.args.log.now.vtable).1.told c.args.log.now.value) c.args.openings.now) c.args.disk_a.now c.args.disk_b.now) in
    let old : LinkState = link_state (λ link. prepend_known c.loop-served.kept (g.P.Link.left link)) g.P.Link.told g.P.Link.read_faults g.P.Link.write_faults c.loop-served.link
    (shared_state g.K.Disk.contents g.K.Disk.disk_faults c.loop-served.machine.machine c.loop-served.fetches (log_state ((g.dyn-1.0.entry c.loop-served.log.vtable).1.told c.loop-served.log.value) c.loop-served.openings) c.loop-served.disk_a c.loop-served.disk_b) in
    let new : LinkState = link_state (λ link. prepend_known c.serve_one-turn.new.kept (g.P.Link.left link)) g.P.Link.told g.P.Link.read_faults g.P.Link.write_faults c.serve_one-turn.new.link
    (shared_state g.K.Disk.contents g.K.Disk.disk_faults c.serve_one-turn.new.machine.machine c.serve_one-turn.new.fetches (log_state ((g.dyn-1.0.entry c.serve_one-turn.new.log.vtable).1.told c.serve_one-turn.new.log.value) c.serve_one-turn.new.openings) c.serve_one-turn.new.disk_a c.serve_one-turn.new.disk_b) in
    let final : LinkState = link_state g.P.Link.left g.P.Link.told g.P.Link.read_faults g.P.Link.write_faults c.serve_one-turn.new.link
    (shared_state g.K.Disk.contents g.K.Disk.disk_faults c.serve_one-turn.new.machine.machine c.serve_one-turn.new.fetches (log_state ((g.dyn-1.0.entry c.serve_one-turn.new.log.vtable).1.told c.serve_one-turn.new.log.value) c.serve_one-turn.new.openings) c.serve_one-turn.new.disk_a c.serve_one-turn.new.disk_b) in
    let left : LeftBy c.serve_one-turn.new.kept new final = record { pending = refl; told = refl; state = refl; fetches = refl; log = refl; read_faults = refl; write_faults = refl; disk_a = refl; disk_b = refl } in
    let n = c.loop-served.served in
    let ends : end_by n c.serve_one-turn.new.passed c.serve_one-turn.result ≡ Some c.in-Some.end = sym c.end.ensures.turn ∙ c.in-Some.is in
    let telling = turn_tells (1000000 - n) old new c.serve_one-turn.new.kept c.serve_one-turn.result c.serve_one-turn.ensures.turn in
    record {
      promise = λ bytes e. served_by bytes start old new final n c.serve_one-turn.new.passed c.serve_one-turn.new.kept c.serve_one-turn.result c.in-Some.end
          (c.loop-served.invariant.progress bytes e) c.loop-served-test.true c.serve_one-turn.ensures.turn ends left;
      telling = (
        without_kept c.loop-served.kept c.serve_one-turn.new.kept (g.P.Link.left c.loop-served.link) (g.P.Link.left c.serve_one-turn.new.link) telling.0 ∙ c.loop-served.invariant.left_telling,
        telling.1 ∙ c.loop-served.invariant.told_telling,
      );
      cause = caused_by start old new final (1000000 - n) n c.serve_one-turn.new.passed c.serve_one-turn.new.kept c.serve_one-turn.result c.in-Some.end
          (record {
            reads = c.loop-served.invariant.read_later;
            writes = c.loop-served.invariant.write_later;
            disk_a = c.loop-served.invariant.later_a;
            disk_b = c.loop-served.invariant.later_b;
          })
          c.serve_one-turn.ensures.turn ends left;
      crash = λ going. crash_now c.serve_one-turn.new.machine final.disk_a.contents final.disk_b.contents
          (ended_well n c.serve_one-turn.new.passed c.serve_one-turn.result c.in-Some.end (IsDurable c.serve_one-turn.new.machine (g.K.Disk.contents c.serve_one-turn.new.disk_a) (g.K.Disk.contents c.serve_one-turn.new.disk_b)) c.serve_one-turn.ensures.durable ends going);
      waits = waits_by old new final (1000000 - n) n c.serve_one-turn.new.passed c.serve_one-turn.new.kept c.serve_one-turn.result c.in-Some.end c.serve_one-turn.ensures.turn ends left;
    }

pub returns-clause-promise : goal.returns-clause-promise
returns-clause-promise g c =
    let start : LinkState = link_state g.P.Link.left g.P.Link.told g.P.Link.read_faults g.P.Link.write_faults c.args.link.now
    (shared_state g.K.Disk.contents g.K.Disk.disk_faults c.args.machine.now.machine c.args.fetches.now (log_state ((g.dyn-1.0.entry c.args.log.now.vtable).1.told c.args.log.now.value) c.args.openings.now) c.args.disk_a.now c.args.disk_b.now) in
    let old : LinkState = link_state (λ link. prepend_known c.loop-served.kept (g.P.Link.left link)) g.P.Link.told g.P.Link.read_faults g.P.Link.write_faults c.loop-served.link
    (shared_state g.K.Disk.contents g.K.Disk.disk_faults c.loop-served.machine.machine c.loop-served.fetches (log_state ((g.dyn-1.0.entry c.loop-served.log.vtable).1.told c.loop-served.log.value) c.loop-served.openings) c.loop-served.disk_a c.loop-served.disk_b) in
    let final : LinkState = link_state g.P.Link.left g.P.Link.told g.P.Link.read_faults g.P.Link.write_faults c.loop-served.link
    (shared_state g.K.Disk.contents g.K.Disk.disk_faults c.loop-served.machine.machine c.loop-served.fetches (log_state ((g.dyn-1.0.entry c.loop-served.log.vtable).1.told c.loop-served.log.value) c.loop-served.openings) c.loop-served.disk_a c.loop-served.disk_b) in
    let left : LeftBy c.loop-served.kept old final = record { pending = refl; told = refl; state = refl; fetches = refl; log = refl; read_faults = refl; write_faults = refl; disk_a = refl; disk_b = refl } in
    record {
      promise = λ bytes e. ends_spent bytes start old final c.loop-served.served c.loop-served.kept (c.loop-served.invariant.progress bytes e)
          (omega (arith, c.loop-served-test.false, c.loop-served.auto.served-end)) left;
      telling = (c.loop-served.invariant.left_telling, c.loop-served.invariant.told_telling);
      cause = tt;
      crash = λ going. crash_now c.loop-served.machine final.disk_a.contents final.disk_b.contents c.loop-served.invariant.durable;
      waits = λ e. absurd (false≢true e);
    }
