use Rattle.std.proofs.Common.{◌≡◌, ℕ, Some, None, inl, inr, refl, subst, sym, ap, ◌∙◌}
use Rattle.std.specs.Prelude.{is_some}
use Rattle.bucket_sort.specs.Opens.{log_state}
use Rattle.search_server.specs.LinkState.{link_state, shared_state}
use Rattle.search_server.specs.Links.{ServesDoor, door_state}
use Rattle.search_server.specs.Demo.{PipeState, ShowsDemo, demo_text}
use Rattle.search_server.specs.Telling.{GoesOnTelling}
use Rattle.search_server.specs.Opening.{Unopened, IsUnopened, NotOpened}
use Rattle.search_server.specs.Statuses.{HasOpened, IsGoing}
use Rattle.search_server.specs.Words.{UsesDisks, command_of}
use Rattle.search_server.specs.declared.status.Status.{Status}
use Rattle.search_server.specs.declared.status.Status.TheVariants as ended
use Rattle.search_server.specs.declared.status.Status.TheVariants.{BadWords}
use Rattle.search_server.specs.declared.words.Command.TheVariants.{Demo, Serve}
use Rattle.search_server.proofs.Visits.{shut, from_before}
use Rattle.search_server.proofs.Telling.{door_tells, demo_tells}
use Rattle.search_server.proofs.run.run_search_server.Goals as goal

-- opening no machine never blames the words
not_bad : (old new : Unopened) (status : Status) → NotOpened old new status → status ≡ BadWords → ⊥
not_bad old new status not bad = subst (IsUnopened old new) bad not.why

-- opening no machine ends so only where none was opened
so_ended : (old new : Unopened) (status : Status) → IsUnopened old new status → HasOpened status → ⊥
so_ended old new ended.DiskFault why opened = opened
so_ended old new (ended.Damaged disk place found) why opened = opened
so_ended old new ended.NoMemory why opened = opened
so_ended old new ended.Done why opened = why
so_ended old new ended.BadWords why opened = why
so_ended old new ended.ReadFault why opened = why
so_ended old new ended.WriteFault why opened = why
so_ended old new ended.DoorFault why opened = why
so_ended old new (ended.CutShort rest) why opened = why
so_ended old new (ended.BadHead kind number) why opened = why
so_ended old new ended.RequestsSpent why opened = why

none_opened : (old new : Unopened) (status : Status) → NotOpened old new status → HasOpened status → ⊥
none_opened old new status not opened = so_ended old new status not.why opened

going_on : (status : Status) → HasOpened status → IsGoing status
going_on status opened = λ failed. subst HasOpened failed opened

-- the demo goes on telling what was written
shown_tells : (count seed : ℕ) (old new : PipeState) (status : Status) → ShowsDemo count seed old new status → GoesOnTelling old.told new.told
shown_tells count seed old new status is = demo_tells (demo_text count seed) old new status is.printed

pub returns-in-Err-clause-bad_words : goal.returns-in-Err-clause-bad_words
returns-in-Err-clause-bad_words g c = (
  λ bad. absurd (not_bad _ _ _ (c.in-Err.ensures.not_opened c.args.openings.now) bad),
  λ none.
      let some : None ≡ Some c.in-Some-Pipe.field-0 = sym none ∙ sym c.command_of.ensures ∙ c.in-Some-Pipe.is in
      absurd (cc (some)),
)

pub returns-in-Err-clause-pipe : goal.returns-in-Err-clause-pipe
returns-in-Err-clause-pipe g c = λ is. (refl, inl (c.in-Err.ensures.not_opened c.args.openings.now, refl))

pub returns-in-Some-Pipe-clause-pipe : goal.returns-in-Some-Pipe-clause-pipe
returns-in-Some-Pipe-clause-pipe g c = λ is.
    let heard = ((g.dyn-1.0.entry c.args.log.vtable).1.told c.args.log.value) in
    let found = shared_state g.K.Disk.contents g.K.Disk.disk_faults c.in-Ok.machine.machine c.open_machine.new.fetches (log_state heard c.args.openings.now) c.open_machine.new.disk_a c.open_machine.new.disk_b in
    let served = c.serve_link.ensures.promise in (
      refl,
      inr (
        found,
        c.in-Ok.ensures.opened heard c.args.openings.now,
        c.serve_link.new.machine.machine,
        (g.dyn-1.0.entry c.serve_link.new.log.vtable).1.told c.serve_link.new.log.value,
        (
          c.serve_link.result.requests,
          c.serve_link.result.passed,
          c.serve_link.result.put_off,
          record { promise = served.promise; telling = served.telling; cause = served.cause; crash = served.crash; waits = served.waits },
        ),
      ),
    )

pub returns-in-Err-open_machine-clause-bad_words : goal.returns-in-Err-open_machine-clause-bad_words
returns-in-Err-open_machine-clause-bad_words g c = (
  λ bad. absurd (not_bad _ _ _ (c.in-Err-open_machine.ensures.not_opened c.args.openings.now) bad),
  λ none.
      let some : None ≡ Some c.in-Some-Serve.field-0 = sym none ∙ sym c.command_of.ensures ∙ c.in-Some-Serve.is in
      absurd (cc (some)),
)

pub returns-in-Err-open_machine-clause-serve : goal.returns-in-Err-open_machine-clause-serve
returns-in-Err-open_machine-clause-serve g c = λ port connections is. (refl, refl, inl (c.in-Err-open_machine.ensures.not_opened c.args.openings.now, (refl, refl)))

pub returns-in-Err-open-clause-serve : goal.returns-in-Err-open-clause-serve
returns-in-Err-open-clause-serve g c = λ port connections is.
    let heard = ((g.dyn-1.0.entry c.args.log.vtable).1.told c.args.log.value) in
    let found = shared_state g.K.Disk.contents g.K.Disk.disk_faults c.in-Ok-open_machine.machine.machine c.open_machine-in-Some-Serve.new.fetches (log_state heard c.args.openings.now) c.open_machine-in-Some-Serve.new.disk_a c.open_machine-in-Some-Serve.new.disk_b in (
      refl,
      refl,
      inr (
        found,
        c.in-Ok-open_machine.ensures.opened heard c.args.openings.now,
        found.state,
        heard,
        shut _ connections _ _
            (record { shared = refl; coming = c.open.ensures.coming; returned = c.open.ensures.returned; told = refl })
            c.in-Err-open.ensures.cause.failed,
      ),
    )

pub returns-in-Some-Serve-clause-serve : goal.returns-in-Some-Serve-clause-serve
returns-in-Some-Serve-clause-serve g c = λ port connections is.
    let at = link_state g.D.Link.Link.left g.D.Link.Link.told g.D.Link.Link.read_faults g.D.Link.Link.write_faults in
    let heard = ((g.dyn-1.0.entry c.args.log.vtable).1.told c.args.log.value) in
    let found = shared_state g.K.Disk.contents g.K.Disk.disk_faults c.in-Ok-open_machine.machine.machine c.open_machine-in-Some-Serve.new.fetches (log_state heard c.args.openings.now) c.open_machine-in-Some-Serve.new.disk_a c.open_machine-in-Some-Serve.new.disk_b in
    let start = door_state g.D.Door.coming g.D.Door.returned g.D.Door.door_faults g.P.Link.told g.P.Link.write_faults c.args.door.now c.args.pipe.now found in
    let end = door_state g.D.Door.coming g.D.Door.returned g.D.Door.door_faults g.P.Link.told g.P.Link.write_faults c.serve_links.new.door c.serve_links.new.pipe
    (shared_state g.K.Disk.contents g.K.Disk.disk_faults c.serve_links.new.machine.machine c.serve_links.new.fetches
    (log_state ((g.dyn-1.0.entry c.serve_links.new.log.vtable).1.told c.serve_links.new.log.value) c.serve_links.new.openings) c.serve_links.new.disk_a c.serve_links.new.disk_b) in
    let all : Some (Serve port connections) ≡ Some c.in-Some-Serve.field-0 = sym is ∙ sym c.command_of.ensures ∙ c.in-Some-Serve.is in
    let field = c.in-Some-Serve.field-0-is in
    let same : c.in-Some-Serve.connections ≡ connections = cc in (
      c.serve_links.ensures.left,
      c.serve_links.ensures.read_faults,
      inr (
        found,
        c.in-Ok-open_machine.ensures.opened heard c.args.openings.now,
        c.serve_links.new.machine.machine,
        (g.dyn-1.0.entry c.serve_links.new.log.vtable).1.told c.serve_links.new.log.value,
        subst (λ n. ServesDoor at n start end c.serve_links.result) same
            (from_before at c.in-Some-Serve.connections (g.D.Door.door_faults c.args.door.now) _ end c.serve_links.result c.open.ensures.cause.later
            (rw (c.open.ensures.coming, c.open.ensures.returned) at c.serve_links.ensures.promise)),
      ),
    )

pub returns-in-Some-Pipe-clause-left_telling : goal.returns-in-Some-Pipe-clause-left_telling
returns-in-Some-Pipe-clause-left_telling g c = c.serve_link.ensures.promise.telling.0

pub returns-in-Some-Pipe-clause-told_telling : goal.returns-in-Some-Pipe-clause-told_telling
returns-in-Some-Pipe-clause-told_telling g c = c.serve_link.ensures.promise.telling.1

pub returns-in-Some-Serve-clause-left_telling : goal.returns-in-Some-Serve-clause-left_telling
returns-in-Some-Serve-clause-left_telling g c = ap is_some c.serve_links.ensures.left

pub returns-in-Some-Serve-clause-told_telling : goal.returns-in-Some-Serve-clause-told_telling
returns-in-Some-Serve-clause-told_telling g c = door_tells _ _ _ _ _ c.serve_links.ensures.promise

pub returns-clause-left_telling : goal.returns-clause-left_telling
returns-clause-left_telling g c = ap is_some c.show_demo.ensures.left

pub returns-clause-told_telling : goal.returns-clause-told_telling
returns-clause-told_telling g c = shown_tells _ _ _ _ _ c.show_demo.ensures.promise

pub returns-in-Err-clause-migrated : goal.returns-in-Err-clause-migrated
returns-in-Err-clause-migrated g c = λ uses opened.
    absurd (none_opened _ _ c.in-Err.status (c.in-Err.ensures.not_opened c.args.openings.now) opened)

pub returns-in-Some-Pipe-clause-migrated : goal.returns-in-Some-Pipe-clause-migrated
returns-in-Some-Pipe-clause-migrated g c = λ uses opened.
    (c.serve_link.ensures.durable (going_on c.serve_link.result.status opened)).migrated

pub returns-in-Err-open_machine-clause-migrated : goal.returns-in-Err-open_machine-clause-migrated
returns-in-Err-open_machine-clause-migrated g c = λ uses opened.
    absurd (none_opened _ _ c.in-Err-open_machine.status (c.in-Err-open_machine.ensures.not_opened c.args.openings.now) opened)

pub returns-in-Err-open-clause-migrated : goal.returns-in-Err-open-clause-migrated
returns-in-Err-open-clause-migrated g c = λ uses opened. c.in-Ok-open_machine.ensures.durable.migrated

pub returns-in-Some-Serve-clause-migrated : goal.returns-in-Some-Serve-clause-migrated
returns-in-Some-Serve-clause-migrated g c = λ uses opened.
    (c.serve_links.ensures.durable (going_on c.serve_links.result opened)).migrated

pub returns-clause-migrated : goal.returns-clause-migrated
returns-clause-migrated g c = λ uses opened.
    let asked : command_of c.args.words.now ≡ Some (Demo c.in-Some-Demo.count c.in-Some-Demo.seed) =
    sym c.command_of.ensures ∙ c.in-Some-Demo.is ∙ ap (λ command. Some command) c.in-Some-Demo.field-0-is in
    absurd (subst UsesDisks asked uses)
