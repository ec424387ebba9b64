use Rattle.document_changes.specs.Changes.{change_view}
use Rattle.http_wire.specs.Wire.{request_of}
use Rattle.request_calls.specs.Asked.{write}
use Rattle.request_calls.proofs.Accepted.{accepted_call}
use Rattle.request_calls.proofs.call.read_call.Goals as goal

pub returns-in-Ok-Write-clause-accepted : goal.returns-in-Ok-Write-clause-accepted
returns-in-Ok-Write-clause-accepted c =
    rw c.in-Ok-Write.field-0-is
    (accepted_call (request_of c.args.wire.now) (write (change_view c.in-Ok-Write.change)) (rw c.in-Ok-Write.field-0-is at c.in-Ok-Write.ensures))
