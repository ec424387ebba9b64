-- What a step of the machine answers.
use Rattle.std.specs.Prelude.{◌≡◌, Option, Some, None, Result, Ok, Err}
use Rattle.filter_machine.specs.Machine.{Machine as MachineData}
use Rattle.filter_machine.specs.Held.{machine_view}
use Rattle.filter_machine.specs.declared.machine.Machine.{Machine}
use Rattle.filter_machine.specs.declared.machine.StepFault.{StepFault}
use Rattle.filter_machine.specs.declared.machine.StepFault.TheVariants.{Unexpected, NoMemory}

-- the step, no step at an unexpected token, or want of memory
abbrev pub StepIs : Option MachineData → Result Machine StepFault → Type 0
StepIs next (Ok m) = next ≡ Some (machine_view m)
StepIs next (Err Unexpected) = next ≡ None
StepIs next (Err NoMemory) = Unit {0}
