use Rattle.std.proofs.Common.{◌≡◌, ◌+◌, [], length}
use Rattle.document_changes.specs.Reading.{IsReading}
use Rattle.document_stream.specs.Reads.{items_at}
use Rattle.document_stream.proofs.Listed.{list_left}
use Rattle.document_stream.proofs.documents.read_list.Given as goal

-- the documents so far, and then what is left, as it lies from the next place on
abbrev pub invariant-members : goal.invariant-members
invariant-members l = record {
  all : list_left [] 1 (items_at 126 l.initial.reader) ≡ list_left l.reading.texts.items (l.before + 1) (items_at 126 l.reader);
  reading : IsReading l.reading;
}

abbrev pub decreases-members : goal.decreases-members
decreases-members l = length l.reader
