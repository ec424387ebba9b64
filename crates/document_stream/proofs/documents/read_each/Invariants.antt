use Rattle.std.proofs.Common.{◌≡◌, ◌++◌}
use Rattle.document_changes.specs.Reading.{IsReading}
use Rattle.document_stream.proofs.documents.read_each.Given as goal

-- the texts so far, and then the documents that are left
abbrev pub invariant-loop-document : goal.invariant-loop-document
invariant-loop-document l = record {
  all : l.initial.reading.texts.items ++ l.initial.document-iterator.rest.items ≡ l.reading.texts.items ++ l.document-iterator.rest.items;
  reading : IsReading l.reading;
}
