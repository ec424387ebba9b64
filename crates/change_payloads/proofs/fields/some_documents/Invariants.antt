use Rattle.std.proofs.Common.{◌≡◌, ◌-◌}
use Rattle.change_payloads.specs.Fields.{documents_at}
use Rattle.change_payloads.proofs.Loop.{with_front}
use Rattle.change_payloads.proofs.fields.some_documents.Given as goal

-- the documents so far and those that are still read
abbrev pub invariant-loop : goal.invariant-loop
invariant-loop l = with_front l.documents.items (documents_at (l.count - l.counter) l.rest) ≡ documents_at l.count l.bytes
