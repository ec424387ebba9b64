-- Checkpoints that are due and were not made.
use Rattle.std.specs.Prelude.{◌≡◌, ◌⊎◌, ℕ, ◌<◌}
use Rattle.change_journal.specs.Fits.{IsDue}
use Rattle.queued_changes.specs.State.{accepted}
use Rattle.durable_machine.specs.declared.machine.DurableMachine.{DurableMachine}

-- where a checkpoint is due now, one was passed over, or one was due before and no task was accepted since
abbrev pub PassedIfDue : DurableMachine → DurableMachine → ℕ → Type 0
PassedIfDue old new passed =
    IsDue new.journal → (0 < passed) ⊎ (IsDue old.journal × (accepted new.machine ≡ accepted old.machine))
