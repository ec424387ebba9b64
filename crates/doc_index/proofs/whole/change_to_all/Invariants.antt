use Rattle.std.proofs.Common.{◌≡◌, ◌+◌, List, [], length}
use Rattle.row_index.specs.Changes.{IsChangeOf}
use Rattle.row_index.specs.Documents.{IndexedDocument}
use Rattle.doc_index.specs.Documents.{rising}
use Rattle.doc_index.proofs.RowLemmas.{from_id}
use Rattle.doc_index.proofs.whole.change_to_all.Given as goal

-- what came so far, and the documents that are left behind it
abbrev pub invariant-loop-id : goal.invariant-loop-id
invariant-loop-id g l = record {
  change : (come : List IndexedDocument) × IsChangeOf l.change [] come
      × (rising l.store.content.paths l.uses (from_id l.id l.store.content.rows) come ≡ rising l.store.content.paths l.uses l.store.content.rows []);
  fetches : l.fetches + length (from_id l.id l.store.content.rows) ≡ l.initial.fetches + length l.store.content.rows;
}
