-- Documents that go and come.
use Rattle.std.specs.Prelude.{◌≡◌, ℕ, Bool, false, not, ◌==◌, List, [], ◌∷◌, ◌++◌, map, Option, None, Some, if◌then◌else◌, ⊤}
use Rattle.std.specs.List.{filter, list_any, AllByRecursion}
use Rattle.postings.specs.Changes.{ChangeView, IsChangeOf, IsPreparedOf}
use Rattle.facet_index.specs.LeavesView.{LeavesView}
use Rattle.facet_index.specs.Places.{keyed, IsNarrowDocument}

-- whether one of the documents has the number
abbrev pub has_id : ℕ → List LeavesView → Bool
has_id id documents = list_any (λ document. document.id == id) documents

-- no two of the documents have one number
abbrev pub AreApart : List LeavesView → Type 0
AreApart [] = ⊤
AreApart (document ∷ documents) = (has_id document.id documents ≡ false) × AreApart documents

-- the document of this number, where there is one
abbrev pub document_at : ℕ → List LeavesView → Option LeavesView
document_at id [] = None
document_at id (document ∷ documents) = if document.id == id then Some document else document_at id documents

-- the documents but for those that go
abbrev pub without : List LeavesView → List LeavesView → List LeavesView
without gone documents = filter (λ document. not (has_id document.id gone)) documents

-- the documents after some went and others came
abbrev pub after : List LeavesView → List LeavesView → List LeavesView → List LeavesView
after gone come documents = come ++ without gone documents

-- a document goes as it stands, and one comes at most once and only where none of its number is left
pub record IsBatch (gone come documents : List LeavesView) : Type 0 where
  pub whole : AllByRecursion (λ document. document_at document.id documents ≡ Some document) gone
  pub once : AreApart come
  pub free : AllByRecursion (λ document. has_id document.id (without gone documents) ≡ false) come

-- what goes are the keys of some documents, and what comes those of others
pub record IsChangeFor (change : ChangeView) (gone come : List LeavesView) : Type 0 where
  pub keys : IsChangeOf change (map keyed gone) (map keyed come)
  pub narrow : AllByRecursion IsNarrowDocument come

-- the same, without what goes and comes
pub record IsPreparedFor (change : ChangeView) (gone come : List LeavesView) : Type 0 where
  pub keys : IsPreparedOf change (map keyed gone) (map keyed come)
  pub narrow : AllByRecursion IsNarrowDocument come
