use Rattle.filter_machine.specs.Held.{level_view, frames_of}
use Rattle.filter_machine.proofs.Steppings.{none_attribute}
use Rattle.filter_machine.proofs.steps.step_attribute.Goals as goal

pub returns-in_default : goal.returns-in_default
returns-in_default c = none_attribute c.args.attribute c.args.token (level_view c.args.level) (frames_of c.args.outer.items)
    c.in_default.not-Text c.in_default.not-Not c.in_default.not-In c.in_default.not-Is c.in_default.not-Compare c.in_default.not-Exists
