-- Documents, and where words stand in them.
use Rattle.std.specs.Prelude.{◌≡◌, ℕ, ◌+◌, ◌*◌, ◌<◌, ◌^◌, Bool, false, not}
use Rattle.std.specs.Prelude.{◌&&◌, ◌==◌, List, [], ◌∷◌, ◌++◌, if◌then◌else◌, ⊤}
use Rattle.std.specs.List.{filter, list_any, AllByRecursion}
use Rattle.std.specs.Str.{bytes_eq}
use Rattle.search_base.specs.declared.document.Place.{Place}

-- a document's internal number, and its words with their places
pub record Document : Type 0 where
  pub id : ℕ
  pub places : List Place

-- a place of a document as one number: document, path and position
abbrev pub entry_of : ℕ → Place → ℕ
entry_of id place = id * 2 ^ 32 + place.path.0 * 2 ^ 16 + place.position

-- the word stands at this place of the document, which is this entry
abbrev pub is_place : List ℕ → ℕ → ℕ → Place → Bool
is_place word entry id place = bytes_eq place.word word && (entry_of id place == entry)

-- the word stands at the entry in a document that has these places
abbrev pub stands_in : List ℕ → ℕ → ℕ → List Place → Bool
stands_in word entry id places = list_any (is_place word entry id) places

-- the word stands at the entry in some document
abbrev pub stands : List ℕ → ℕ → List Document → Bool
stands word entry documents = list_any (λ document. stands_in word entry document.id document.places) documents

-- paths and positions fit beside each other in an entry
abbrev pub AreNarrow : List Place → Type 0
AreNarrow places = AllByRecursion (λ place. (place.path.0 < 2 ^ 16) × (place.position < 2 ^ 16)) places

abbrev pub AllNarrow : List Document → Type 0
AllNarrow documents = AllByRecursion (λ document. AreNarrow document.places) documents

-- whether one of the documents has the number
abbrev pub has_id : ℕ → List Document → Bool
has_id id documents = list_any (λ document. document.id == id) documents

-- no two of the documents have one number
abbrev pub AreApart : List Document → Type 0
AreApart [] = ⊤
AreApart (document ∷ documents) = (has_id document.id documents ≡ false) × AreApart documents

-- the places of the document of this number, and none where there is none
abbrev pub places_of : ℕ → List Document → List Place
places_of id [] = []
places_of id (document ∷ documents) = if document.id == id then document.places else places_of id documents

-- the documents but for those that go
abbrev pub without : List Document → List Document → List Document
without gone documents = filter (λ document. not (has_id document.id gone)) documents

-- the documents after some went and others came
abbrev pub after : List Document → List Document → List Document → List Document
after gone come documents = come ++ without gone documents

-- a document goes with all its places, and one comes at most once and only where none of its number is left
pub record IsBatch (gone come documents : List Document) : Type 0 where
  pub whole : AllByRecursion (λ document. document.places ≡ places_of document.id documents) gone
  pub once : AreApart come
  pub free : AllByRecursion (λ document. has_id document.id (without gone documents) ≡ false) come
