use Rattle.std.proofs.Common.{ap, ◌∙◌}
use Rattle.document_changes.specs.Changes.{change_view}
use Rattle.change_payloads.specs.Change.{change_at}
use Rattle.change_payloads.proofs.Again.{change_again}
use Rattle.change_payloads.proofs.writing.encode_change.Goals as goal

pub returns-clause-back : goal.returns-clause-back
returns-clause-back c =
    ap change_at c.in_ok-bytes.ensures.bytes ∙ change_again (change_view c.args.change.now) (record { uid = c.in_ok-bytes.ensures.uid; kind = c.in_ok-bytes.ensures.kind })
