use Rattle.std.proofs.Common.{◌≡◌, ◌+◌, ℕ, Option, Ok, Err, Result, sym, ap, subst, ◌∙◌, arith}
use Rattle.change_payloads.specs.Change.{Spot}
use Rattle.change_payloads.specs.declared.fault.ImageFault.{ImageFault}
use Rattle.change_journal.specs.Format.{Spot as DiskSpot}
use Rattle.queued_changes.specs.State.{accepted}
use Rattle.search_routes.specs.State.{State}
use Rattle.search_routes.specs.Redo.{ReadsTask, redone, task_again}
use Rattle.durable_machine.specs.Held.{if_redone}
use Rattle.durable_machine.proofs.Runs.{damage_place, damage_redone}
use Rattle.durable_machine.proofs.opening.fault_at.Goals as goal

damaged_at : (disk at place sum : ℕ) (found : Option ℕ) (r : Result State Spot) → r ≡ Err (record { place = place; found = found }) → sum ≡ at + place
    → if_redone disk at r Ok ≡ Err (record { disk = disk; place = sum; found = found })
damaged_at disk at place sum found r e is =
    let at_place : ℕ → Result State DiskSpot = λ n. Err (record { disk = disk; place = n; found = found }) in
    ap (λ (q : Result State Spot). if_redone disk at q Ok) e ∙ ap at_place (sym is)

pub returns-in-Damaged-clause-damage : goal.returns-in-Damaged-clause-damage
returns-in-Damaged-clause-damage c = λ s bytes fits reads.
    let spot : Spot = record { place = c.in-Damaged.place; found = c.in-Damaged.found } in
    let e : task_again (accepted s) bytes ≡ Err spot = subst (λ (f : ImageFault). ReadsTask (Err f) (task_again (accepted s) bytes)) c.in-Damaged.is reads in
    let inside = damage_place (accepted s) bytes spot e in
    damaged_at c.args.disk c.args.at c.in-Damaged.place c.saturating_add.result c.in-Damaged.found (redone s bytes) (damage_redone s bytes spot e) (omega (arith, c.saturating_add.ensures, inside, fits))
