use Rattle.index_settings.proofs.Printed.{printed_back, no_float-printed, shallow-printed}
use Rattle.index_settings.proofs.json.to_json.Goals as goal

pub returns-clause-back : goal.returns-clause-back
returns-clause-back c = λ old. rw c.in_ok-value.ensures.value (printed_back old c.args.settings.now c.in_ok-value.ensures.within)

pub returns-clause-whole : goal.returns-clause-whole
returns-clause-whole c = rw c.in_ok-value.ensures.value (no_float-printed c.args.settings.now)

pub returns-clause-shallow : goal.returns-clause-shallow
returns-clause-shallow c = rw c.in_ok-value.ensures.value (shallow-printed c.args.settings.now)
