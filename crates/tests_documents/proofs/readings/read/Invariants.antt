use Rattle.document_changes.specs.Reading.{IsReading}
use Rattle.tests_documents.proofs.readings.read.Given as goal

abbrev pub invariant-loop-document : goal.invariant-loop-document
invariant-loop-document g l =
    (goal.iterator-loop-document g).can_next l.document-iterator ×
    (goal.iterator-loop-document g).is_finite l.document-iterator ×
    IsReading l.reading
