-- Documents with their rows, and those that a change leaves.
use Rattle.std.specs.Prelude.{◌≡◌, ℕ, Bool, false, not, ◌==◌, List, [], ◌∷◌, ◌++◌, Option, None, Some, if◌then◌else◌, ⊤}
use Rattle.std.specs.List.{filter, list_any, AllByRecursion}
use Rattle.search_base.specs.RowsView.{RowsView}

-- a document's internal id, and what a search sees of it
pub record IndexedDocument : Type 0 where
  pub id : ℕ
  pub rows : RowsView

abbrev pub document_with : ℕ → RowsView → IndexedDocument
document_with id rows = record { id = id; rows = rows }

-- whether one of the documents has the id
abbrev pub has_id : ℕ → List IndexedDocument → Bool
has_id id documents = list_any (λ document. document.id == id) documents

-- no two of the documents have one id
abbrev pub AreApart : List IndexedDocument → Type 0
AreApart [] = ⊤
AreApart (document ∷ documents) = (has_id document.id documents ≡ false) × AreApart documents

-- the document of this id, where there is one
abbrev pub document_at : ℕ → List IndexedDocument → Option IndexedDocument
document_at id [] = None
document_at id (document ∷ documents) = if document.id == id then Some document else document_at id documents

-- the documents but for those that go
abbrev pub without : List IndexedDocument → List IndexedDocument → List IndexedDocument
without gone documents = filter (λ document. not (has_id document.id gone)) documents

-- the documents after some went and others came
abbrev pub after : List IndexedDocument → List IndexedDocument → List IndexedDocument → List IndexedDocument
after gone come documents = come ++ without gone documents

-- a document goes as it stands, and one comes at most once and only where none of its id is left
pub record IsBatch (gone come documents : List IndexedDocument) : Type 0 where
  pub whole : AllByRecursion (λ document. document_at document.id documents ≡ Some document) gone
  pub once : AreApart come
  pub free : AllByRecursion (λ document. has_id document.id (without gone documents) ≡ false) come
