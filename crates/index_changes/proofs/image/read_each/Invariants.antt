use Rattle.std.proofs.Common.{◌≡◌, ◌+◌, ◌++◌, List, [], length, map}
use Rattle.doc_store.specs.Restored.{restored_row}
use Rattle.row_index.specs.Changes.{IsChangeOf}
use Rattle.row_index.specs.Documents.{IndexedDocument}
use Rattle.doc_index.specs.Documents.{rising}
use Rattle.index_changes.specs.Images.{row_under}
use Rattle.index_changes.proofs.image.read_each.Given as goal

-- what was read so far, and the documents that are left behind it
abbrev pub invariant-loop-document : goal.invariant-loop-document
invariant-loop-document g l =
    let key = l.reader.key.now in
    let all = l.initial.document-iterator.rest.items in
    let left = l.document-iterator.rest.items in
    record {
      rows : map restored_row l.rows.items ++ map (row_under key) left ≡ map (row_under key) all;
      change : IsChangeOf l.initial.change [] [] → (come : List IndexedDocument) × IsChangeOf l.change [] come
          × (rising l.reader.paths.now l.reader.uses.now (map (row_under key) left) come ≡ rising l.reader.paths.now l.reader.uses.now (map (row_under key) all) []);
      fetches : l.fetches + length left ≡ l.initial.fetches + length all;
    }
