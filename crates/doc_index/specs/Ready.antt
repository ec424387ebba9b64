-- A change of a row index that was prepared, and where it leads.
use Rattle.std.specs.Prelude.{◌≡◌, ℕ, List}
use Rattle.row_index.specs.Documents.{IndexedDocument, IsBatch, AreApart, document_at, after}
use Rattle.row_index.specs.Standing.{RowIndexView, StandsFor}
use Rattle.row_index.specs.Changes.{PreparedView, IsPreparedOf, HasRooms}

-- the documents are one under each internal id
abbrev pub AreTheSame : List IndexedDocument → List IndexedDocument → Type 0
AreTheSame some others = (id : ℕ) → document_at id some ≡ document_at id others

-- committed, the change makes the index stand for these documents
pub record IsReady (prepared : PreparedView) (index : RowIndexView) (documents : List IndexedDocument) : Type 0 where
  pub gone : List IndexedDocument
  pub come : List IndexedDocument
  pub before : List IndexedDocument
  pub is : IsPreparedOf index prepared gone come
  pub batch : IsBatch gone come before
  pub stood : StandsFor index before
  pub room : HasRooms index prepared
  pub leads : AreTheSame (after gone come before) documents
  pub apart : AreApart documents
