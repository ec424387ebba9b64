use Rattle.std.proofs.Common.{◌≡◌, length}
use Rattle.document_stream.specs.Reads.{items_at, broken_behind}
use Rattle.document_stream.proofs.documents.pass_members.Given as goal

abbrev pub invariant-members : goal.invariant-members
invariant-members l = broken_behind (items_at 126 l.initial.reader) ≡ broken_behind (items_at 126 l.reader)

abbrev pub decreases-members : goal.decreases-members
decreases-members l = length l.reader
