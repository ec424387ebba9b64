use Rattle.std.proofs.Common.{ap₂, ◌∙◌}
use Rattle.named_indexes.specs.Indexes.{with_index}
use Rattle.named_indexes.proofs.images.put_index.Goals as goal

pub returns-clause-put : goal.returns-clause-put
returns-clause-put g c =
    c.in_ok-insert.ensures.entries ∙ ap₂ (λ uid index. with_index uid index c.args.entries.now.entries) c.in_ok-uid.ensures.cases c.in_ok-index.ensures.index
