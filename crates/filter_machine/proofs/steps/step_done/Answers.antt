use Rattle.filter_machine.specs.Held.{level_view, frames_of}
use Rattle.filter_machine.proofs.Steppings.{none_done}
use Rattle.filter_machine.proofs.steps.step_done.Goals as goal

pub returns-in_default : goal.returns-in_default
returns-in_default c = none_done c.args.token (level_view c.args.level) (frames_of c.args.outer.items) c.in_default.not-And c.in_default.not-Or c.in_default.not-Close
