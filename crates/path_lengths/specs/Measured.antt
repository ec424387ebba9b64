-- The lengths of a document's paths as places of posting lists.
use Rattle.std.specs.Prelude.{ℕ, pos, ◌+◌, List, map, filter}
use Rattle.search_base.specs.declared.document.Place.{Place}
use Rattle.search_base.specs.declared.value.FacetValue.TheVariants.{Number}
use Rattle.postings.specs.Dictionary.{PostingsView}
use Rattle.postings.specs.Documents.{Document, AllNarrow}
use Rattle.postings.specs.Changes.{ChangeView, IsChangeOf, IsPreparedOf}
use Rattle.postings.specs.Fresh.{StandsFor}
use Rattle.facet_keys.specs.Keys.{leaf, key_bytes}
use Rattle.path_lengths.specs.Lengths.{is_last}

-- the key of a path and a length: that of a number under the path
abbrev pub length_key : ℕ → ℕ → List ℕ
length_key path length = key_bytes path (leaf (Number (pos length)))

-- a key stands once in a document, at the first place there
abbrev pub key_place : List ℕ → Place
key_place key = record { path = record { 0 = 0 }; rank = 0; position = 0; word = key }

-- the place of the length of a path, by its last word
abbrev pub length_place : Place → Place
length_place place = key_place (length_key place.path.0 (place.position + 1))

-- the lengths of all paths
abbrev pub lengths_of : List Place → List Place
lengths_of places = map length_place (filter (is_last places) places)

-- a document by its lengths, as posting lists know it
abbrev pub measured : Document → Document
measured document = record { id = document.id; places = lengths_of document.places }

-- the posting lists are those of the documents' lengths
pub record AreLengthsOf (view : PostingsView) (documents : List Document) : Type 0 where
  pub keys : StandsFor view (map measured documents)
  pub narrow : AllNarrow documents

-- the lengths of some documents go, and those of others come
pub record IsLengthChangeOf (change : ChangeView) (gone come : List Document) : Type 0 where
  pub keys : IsChangeOf change (map measured gone) (map measured come)
  pub narrow : AllNarrow come

-- the same, where memory was taken
pub record IsPreparedFor (change : ChangeView) (gone come : List Document) : Type 0 where
  pub keys : IsPreparedOf change (map measured gone) (map measured come)
  pub narrow : AllNarrow come
