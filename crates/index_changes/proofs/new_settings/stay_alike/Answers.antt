use Rattle.std.proofs.Common.{sym}
use Rattle.index_changes.proofs.new_settings.stay_alike.Goals as goal

pub returns-else-may_differ : goal.returns-else-may_differ
returns-else-may_differ c = sym (c.requires.same c.if-may_differ.false)
