use Rattle.std.proofs.Common.{◌≡◌, ◌∷◌, [], ◌++◌, inl, inr, refl, ap, sym, subst, ◌∙◌, IfSome, arith}
use Rattle.std.specs.Option.{option_map}
use Rattle.bucket_sort.specs.Opens.{log_state}
use Rattle.search_server.specs.LinkState.{link_state, shared_state}
use Rattle.search_server.specs.Links.{Visit, door_state}
use Rattle.search_server.proofs.Visits.{OneMore, nothing_yet, goes_on, ends_fault, ends_done, ends_cut, ends_failed, failed_later, rose_later}
use Rattle.search_server.proofs.links.serve_links.Goals as goal

pub loop-served-init : goal.loop-served-init
loop-served-init g c =
    let at = link_state g.D.Link.Link.left g.D.Link.Link.told g.D.Link.Link.read_faults g.D.Link.Link.write_faults in
    let start = door_state g.D.Door.coming g.D.Door.returned g.D.Door.door_faults g.P.Link.told g.P.Link.write_faults c.args.door.now c.args.pipe.now
    (shared_state g.K.Disk.contents g.K.Disk.disk_faults c.args.machine.now.machine c.args.fetches.now (log_state ((g.dyn-1.0.entry c.args.log.now.vtable).1.told c.args.log.now.value) c.args.openings.now) c.args.disk_a.now c.args.disk_b.now) in
    record {
      visits = nothing_yet at start start (record { shared = refl; coming = refl; returned = refl; told = refl });
      durable = c.requires.durable;
      opened = c.requires.«open»;
      none_out = c.requires.none_out;
      left = refl;
      read_faults = refl;
      write_later = omega arith;
      door_later = omega arith;
      told_a = refl;
      told_b = refl;
      later_a = omega arith;
      later_b = omega arith;
    }

pub returns-in-Err-clause-promise : goal.returns-in-Err-clause-promise
returns-in-Err-clause-promise g c =
    let at = link_state g.D.Link.Link.left g.D.Link.Link.told g.D.Link.Link.read_faults g.D.Link.Link.write_faults in
    let start = door_state g.D.Door.coming g.D.Door.returned g.D.Door.door_faults g.P.Link.told g.P.Link.write_faults c.args.door.now c.args.pipe.now
    (shared_state g.K.Disk.contents g.K.Disk.disk_faults c.args.machine.now.machine c.args.fetches.now (log_state ((g.dyn-1.0.entry c.args.log.now.vtable).1.told c.args.log.now.value) c.args.openings.now) c.args.disk_a.now c.args.disk_b.now) in
    let here = door_state g.D.Door.coming g.D.Door.returned g.D.Door.door_faults g.P.Link.told g.P.Link.write_faults c.loop-served.door c.loop-served.pipe
    (shared_state g.K.Disk.contents g.K.Disk.disk_faults c.loop-served.machine.machine c.loop-served.fetches (log_state ((g.dyn-1.0.entry c.loop-served.log.vtable).1.told c.loop-served.log.value) c.loop-served.openings) c.loop-served.disk_a c.loop-served.disk_b) in
    let end = door_state g.D.Door.coming g.D.Door.returned g.D.Door.door_faults g.P.Link.told g.P.Link.write_faults c.next.new.self c.loop-served.pipe
    (shared_state g.K.Disk.contents g.K.Disk.disk_faults c.loop-served.machine.machine c.loop-served.fetches (log_state ((g.dyn-1.0.entry c.loop-served.log.vtable).1.told c.loop-served.log.value) c.loop-served.openings) c.loop-served.disk_a c.loop-served.disk_b) in
    ends_fault at c.loop-served.served c.args.connections start here end c.loop-served.invariant.visits
    (record { shared = refl; coming = c.in-Err.ensures.failed; returned = c.in-Err.ensures.returned; told = refl })
    (omega (arith, c.loop-served-test.true, c.loop-served.auto.served-end))
    (rose_later start.door_faults here.door_faults end.door_faults c.loop-served.invariant.door_later c.in-Err.ensures.cause.failed)

pub returns-in-Ok-None-clause-promise : goal.returns-in-Ok-None-clause-promise
returns-in-Ok-None-clause-promise g c =
    let at = link_state g.D.Link.Link.left g.D.Link.Link.told g.D.Link.Link.read_faults g.D.Link.Link.write_faults in
    let start = door_state g.D.Door.coming g.D.Door.returned g.D.Door.door_faults g.P.Link.told g.P.Link.write_faults c.args.door.now c.args.pipe.now
    (shared_state g.K.Disk.contents g.K.Disk.disk_faults c.args.machine.now.machine c.args.fetches.now (log_state ((g.dyn-1.0.entry c.args.log.now.vtable).1.told c.args.log.now.value) c.args.openings.now) c.args.disk_a.now c.args.disk_b.now) in
    let here = door_state g.D.Door.coming g.D.Door.returned g.D.Door.door_faults g.P.Link.told g.P.Link.write_faults c.loop-served.door c.loop-served.pipe
    (shared_state g.K.Disk.contents g.K.Disk.disk_faults c.loop-served.machine.machine c.loop-served.fetches (log_state ((g.dyn-1.0.entry c.loop-served.log.vtable).1.told c.loop-served.log.value) c.loop-served.openings) c.loop-served.disk_a c.loop-served.disk_b) in
    let end = door_state g.D.Door.coming g.D.Door.returned g.D.Door.door_faults g.P.Link.told g.P.Link.write_faults c.next.new.self c.loop-served.pipe
    (shared_state g.K.Disk.contents g.K.Disk.disk_faults c.loop-served.machine.machine c.loop-served.fetches (log_state ((g.dyn-1.0.entry c.loop-served.log.vtable).1.told c.loop-served.log.value) c.loop-served.openings) c.loop-served.disk_a c.loop-served.disk_b) in
    let none = rw c.in-Ok-None.field-0-is at c.in-Ok-None.ensures.given in
    ends_done at c.loop-served.served c.args.connections start here end c.loop-served.invariant.visits
    (record { shared = refl; coming = none.0; returned = c.in-Ok-None.ensures.returned; told = refl })
    (omega (arith, c.loop-served-test.true, c.loop-served.auto.served-end))
    (inr (subst (λ coming. IfSome coming (λ ls. ls ≡ [])) (sym none.0) none.1))

pub returns-in-DiskFault-clause-promise : goal.returns-in-DiskFault-clause-promise
returns-in-DiskFault-clause-promise g c =
    let at = link_state g.D.Link.Link.left g.D.Link.Link.told g.D.Link.Link.read_faults g.D.Link.Link.write_faults in
    let start = door_state g.D.Door.coming g.D.Door.returned g.D.Door.door_faults g.P.Link.told g.P.Link.write_faults c.args.door.now c.args.pipe.now
    (shared_state g.K.Disk.contents g.K.Disk.disk_faults c.args.machine.now.machine c.args.fetches.now (log_state ((g.dyn-1.0.entry c.args.log.now.vtable).1.told c.args.log.now.value) c.args.openings.now) c.args.disk_a.now c.args.disk_b.now) in
    let here = door_state g.D.Door.coming g.D.Door.returned g.D.Door.door_faults g.P.Link.told g.P.Link.write_faults c.loop-served.door c.loop-served.pipe
    (shared_state g.K.Disk.contents g.K.Disk.disk_faults c.loop-served.machine.machine c.loop-served.fetches (log_state ((g.dyn-1.0.entry c.loop-served.log.vtable).1.told c.loop-served.log.value) c.loop-served.openings) c.loop-served.disk_a c.loop-served.disk_b) in
    let behind = shared_state g.K.Disk.contents g.K.Disk.disk_faults c.serve_link-end.new.machine.machine c.serve_link-end.new.fetches (log_state ((g.dyn-1.0.entry c.serve_link-end.new.log.vtable).1.told c.serve_link-end.new.log.value) c.serve_link-end.new.openings) c.serve_link-end.new.disk_a c.serve_link-end.new.disk_b in
    let end = door_state g.D.Door.coming g.D.Door.returned g.D.Door.door_faults g.P.Link.told g.P.Link.write_faults c.give_back.new.self c.loop-served.pipe behind in
    let visit : Visit g.row.D-Link.Denot = record { taken = c.in-Ok-Some.given; given = c.serve_link-end.new.link; behind = behind; end = c.serve_link-end.result } in
    let one : OneMore at here end visit = record {
      served = c.serve_link-end.ensures.promise;
      shared = refl;
      coming = (rw c.in-Ok-Some.field-0-is at c.in-Ok-Some.ensures.given) ∙ ap (option_map (λ ls. c.in-Ok-Some.given ∷ ls)) (sym c.give_back.ensures.coming);
      returned = c.give_back.ensures.returned ∙ ap (option_map (λ ls. ls ++ c.serve_link-end.new.link ∷ [])) c.next.ensures.returned;
    } in
    ends_failed at c.loop-served.served c.args.connections start here end visit c.loop-served.invariant.visits one c.in-DiskFault.is
    (omega (arith, c.loop-served-test.true, c.loop-served.auto.served-end)) refl
    (failed_later start.shared.disk_a start.shared.disk_b (at visit.taken here.shared) (at visit.given behind) visit.end c.in-DiskFault.is one.served.cause
    c.loop-served.invariant.later_a c.loop-served.invariant.later_b)

pub returns-in-Err-write_line-clause-promise : goal.returns-in-Err-write_line-clause-promise
returns-in-Err-write_line-clause-promise g c =
    let at = link_state g.D.Link.Link.left g.D.Link.Link.told g.D.Link.Link.read_faults g.D.Link.Link.write_faults in
    let start = door_state g.D.Door.coming g.D.Door.returned g.D.Door.door_faults g.P.Link.told g.P.Link.write_faults c.args.door.now c.args.pipe.now
    (shared_state g.K.Disk.contents g.K.Disk.disk_faults c.args.machine.now.machine c.args.fetches.now (log_state ((g.dyn-1.0.entry c.args.log.now.vtable).1.told c.args.log.now.value) c.args.openings.now) c.args.disk_a.now c.args.disk_b.now) in
    let here = door_state g.D.Door.coming g.D.Door.returned g.D.Door.door_faults g.P.Link.told g.P.Link.write_faults c.loop-served.door c.loop-served.pipe
    (shared_state g.K.Disk.contents g.K.Disk.disk_faults c.loop-served.machine.machine c.loop-served.fetches (log_state ((g.dyn-1.0.entry c.loop-served.log.vtable).1.told c.loop-served.log.value) c.loop-served.openings) c.loop-served.disk_a c.loop-served.disk_b) in
    let behind = shared_state g.K.Disk.contents g.K.Disk.disk_faults c.serve_link-end.new.machine.machine c.serve_link-end.new.fetches (log_state ((g.dyn-1.0.entry c.serve_link-end.new.log.vtable).1.told c.serve_link-end.new.log.value) c.serve_link-end.new.openings) c.serve_link-end.new.disk_a c.serve_link-end.new.disk_b in
    let end = door_state g.D.Door.coming g.D.Door.returned g.D.Door.door_faults g.P.Link.told g.P.Link.write_faults c.give_back.new.self c.write_line.new.pipe behind in
    let visit : Visit g.row.D-Link.Denot = record { taken = c.in-Ok-Some.given; given = c.serve_link-end.new.link; behind = behind; end = c.serve_link-end.result } in
    let one : OneMore at here end visit = record {
      served = c.serve_link-end.ensures.promise;
      shared = refl;
      coming = (rw c.in-Ok-Some.field-0-is at c.in-Ok-Some.ensures.given) ∙ ap (option_map (λ ls. c.in-Ok-Some.given ∷ ls)) (sym c.give_back.ensures.coming);
      returned = c.give_back.ensures.returned ∙ ap (option_map (λ ls. ls ++ c.serve_link-end.new.link ∷ [])) c.next.ensures.returned;
    } in
    ends_cut at c.loop-served.served c.args.connections start here end visit c.loop-served.invariant.visits one c.in_default.not-DiskFault
    (omega (arith, c.loop-served-test.true, c.loop-served.auto.served-end))
    c.in-Err-write_line.ensures.err
    (rose_later start.write_faults here.write_faults end.write_faults c.loop-served.invariant.write_later c.in-Err-write_line.ensures.cause.failed)

pub loop-served-preserved : goal.loop-served-preserved
loop-served-preserved g c =
    let at = link_state g.D.Link.Link.left g.D.Link.Link.told g.D.Link.Link.read_faults g.D.Link.Link.write_faults in
    let start = door_state g.D.Door.coming g.D.Door.returned g.D.Door.door_faults g.P.Link.told g.P.Link.write_faults c.args.door.now c.args.pipe.now
    (shared_state g.K.Disk.contents g.K.Disk.disk_faults c.args.machine.now.machine c.args.fetches.now (log_state ((g.dyn-1.0.entry c.args.log.now.vtable).1.told c.args.log.now.value) c.args.openings.now) c.args.disk_a.now c.args.disk_b.now) in
    let here = door_state g.D.Door.coming g.D.Door.returned g.D.Door.door_faults g.P.Link.told g.P.Link.write_faults c.loop-served.door c.loop-served.pipe
    (shared_state g.K.Disk.contents g.K.Disk.disk_faults c.loop-served.machine.machine c.loop-served.fetches (log_state ((g.dyn-1.0.entry c.loop-served.log.vtable).1.told c.loop-served.log.value) c.loop-served.openings) c.loop-served.disk_a c.loop-served.disk_b) in
    let behind = shared_state g.K.Disk.contents g.K.Disk.disk_faults c.serve_link-end.new.machine.machine c.serve_link-end.new.fetches (log_state ((g.dyn-1.0.entry c.serve_link-end.new.log.vtable).1.told c.serve_link-end.new.log.value) c.serve_link-end.new.openings) c.serve_link-end.new.disk_a c.serve_link-end.new.disk_b in
    let end = door_state g.D.Door.coming g.D.Door.returned g.D.Door.door_faults g.P.Link.told g.P.Link.write_faults c.give_back.new.self c.write_line.new.pipe behind in
    let visit : Visit g.row.D-Link.Denot = record { taken = c.in-Ok-Some.given; given = c.serve_link-end.new.link; behind = behind; end = c.serve_link-end.result } in
    let one : OneMore at here end visit = record {
      served = c.serve_link-end.ensures.promise;
      shared = refl;
      coming = (rw c.in-Ok-Some.field-0-is at c.in-Ok-Some.ensures.given) ∙ ap (option_map (λ ls. c.in-Ok-Some.given ∷ ls)) (sym c.give_back.ensures.coming);
      returned = c.give_back.ensures.returned ∙ ap (option_map (λ ls. ls ++ c.serve_link-end.new.link ∷ [])) c.next.ensures.returned;
    } in
    record {
      visits = goes_on at c.loop-served.served start here end visit c.loop-served.invariant.visits one c.in_default.not-DiskFault c.in-Ok.ensures.ok;
      durable = c.serve_link-end.ensures.durable c.in_default.not-DiskFault;
      opened = c.give_back.ensures.«open» ∙ c.next.ensures.«open»;
      none_out = c.give_back.ensures.out;
      left = c.write_line.ensures.left ∙ c.loop-served.invariant.left;
      read_faults = c.write_line.ensures.read_faults ∙ c.loop-served.invariant.read_faults;
      write_later = omega (arith, c.write_line.ensures.cause.later, c.loop-served.invariant.write_later);
      door_later = omega (arith, c.give_back.ensures.faults, c.next.ensures.cause.later, c.loop-served.invariant.door_later);
      told_a = c.serve_link-end.ensures.told_a ∙ c.loop-served.invariant.told_a;
      told_b = c.serve_link-end.ensures.told_b ∙ c.loop-served.invariant.told_b;
      later_a = omega (arith, c.serve_link-end.ensures.later_a, c.loop-served.invariant.later_a);
      later_b = omega (arith, c.serve_link-end.ensures.later_b, c.loop-served.invariant.later_b);
    }

pub returns-clause-promise : goal.returns-clause-promise
returns-clause-promise g c =
    let at = link_state g.D.Link.Link.left g.D.Link.Link.told g.D.Link.Link.read_faults g.D.Link.Link.write_faults in
    let start = door_state g.D.Door.coming g.D.Door.returned g.D.Door.door_faults g.P.Link.told g.P.Link.write_faults c.args.door.now c.args.pipe.now
    (shared_state g.K.Disk.contents g.K.Disk.disk_faults c.args.machine.now.machine c.args.fetches.now (log_state ((g.dyn-1.0.entry c.args.log.now.vtable).1.told c.args.log.now.value) c.args.openings.now) c.args.disk_a.now c.args.disk_b.now) in
    let here = door_state g.D.Door.coming g.D.Door.returned g.D.Door.door_faults g.P.Link.told g.P.Link.write_faults c.loop-served.door c.loop-served.pipe
    (shared_state g.K.Disk.contents g.K.Disk.disk_faults c.loop-served.machine.machine c.loop-served.fetches (log_state ((g.dyn-1.0.entry c.loop-served.log.vtable).1.told c.loop-served.log.value) c.loop-served.openings) c.loop-served.disk_a c.loop-served.disk_b) in
    ends_done at c.loop-served.served c.args.connections start here here c.loop-served.invariant.visits
    (record { shared = refl; coming = refl; returned = refl; told = refl })
    (omega (arith, c.loop-served-test.false, c.loop-served.auto.served-end))
    (inl (omega (arith, c.loop-served-test.false, c.loop-served.auto.served-end)))

pub returns-in-Err-clause-durable : goal.returns-in-Err-clause-durable
returns-in-Err-clause-durable g c = λ going. c.loop-served.invariant.durable

pub returns-in-Ok-None-clause-durable : goal.returns-in-Ok-None-clause-durable
returns-in-Ok-None-clause-durable g c = λ going. c.loop-served.invariant.durable

pub returns-in-DiskFault-clause-durable : goal.returns-in-DiskFault-clause-durable
returns-in-DiskFault-clause-durable g c = λ going. absurd (going refl)

pub returns-in-Err-write_line-clause-durable : goal.returns-in-Err-write_line-clause-durable
returns-in-Err-write_line-clause-durable g c = λ going. c.serve_link-end.ensures.durable c.in_default.not-DiskFault

pub returns-clause-durable : goal.returns-clause-durable
returns-clause-durable g c = λ going. c.loop-served.invariant.durable
