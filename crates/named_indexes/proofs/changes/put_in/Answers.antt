use Rattle.std.proofs.Common.{ap, ◌∙◌}
use Rattle.named_indexes.specs.Indexes.{with_index}
use Rattle.named_indexes.proofs.changes.put_in.Goals as goal

pub returns-clause-put : goal.returns-clause-put
returns-clause-put c = c.in_ok-insert.ensures.entries ∙ ap (λ u. with_index u c.args.index c.args.entries.now.entries) c.in_ok-uid.ensures.cases
