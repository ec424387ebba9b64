use Rattle.std.proofs.Common.{[]}
use Rattle.index_changes.proofs.gathered.admitted_again.Goals as goal

pub returns-in-Ok : goal.returns-in-Ok
returns-in-Ok c = c.in-Ok.ensures.more [] c.start_admitting-admitting.ensures
