-- The facets of a document as places of posting lists.
use Rattle.std.specs.Prelude.{ℕ, ◌/◌, ◌^◌, ◌==◌, Bool, List, map, ◌++◌}
use Rattle.std.specs.List.{list_any, AllByRecursion}
use Rattle.search_base.specs.declared.document.Leaf.{Leaf}
use Rattle.search_base.specs.declared.document.Mark.{Mark}
use Rattle.search_base.specs.declared.document.Place.{Place}
use Rattle.postings.specs.Dictionary.{PostingsView}
use Rattle.postings.specs.Documents.{Document}
use Rattle.postings.specs.Fresh.{StandsFor}
use Rattle.facet_keys.specs.Keys.{Facet, leaf, mark, key_bytes, IsNarrow}
use Rattle.facet_index.specs.LeavesView.{LeavesView}
use Rattle.facet_index.specs.Ends.{ends_of}
use Rattle.facet_index.specs.Counted.{counted_of}

abbrev pub leaf_facets : List Leaf → List (ℕ × Facet)
leaf_facets leaves = map (λ x. (x.path.0, leaf x.value)) leaves

abbrev pub mark_facets : List Mark → List (ℕ × Facet)
mark_facets marks = map (λ x. (x.path.0, mark x.kind)) marks

-- the facets of a document under their paths: its values, its marks, the values that come first, and the texts as which
-- values are counted
abbrev pub facets_of : LeavesView → List (ℕ × Facet)
facets_of document = leaf_facets document.leaves
    ++ (mark_facets document.marks ++ (ends_of document.leaves ++ counted_of document.leaves))

abbrev pub key_of : ℕ × Facet → List ℕ
key_of x = key_bytes x.0 x.1

abbrev pub keys_of : LeavesView → List (List ℕ)
keys_of document = map key_of (facets_of document)

-- a key stands once in a document, at the first place there
abbrev pub place_of : List ℕ → Place
place_of key = record { path = record { 0 = 0 }; rank = 0; position = 0; word = key }

abbrev pub places_of : List (ℕ × Facet) → List Place
places_of facets = map (λ x. place_of (key_of x)) facets

-- a document as posting lists know it
abbrev pub keyed : LeavesView → Document
keyed document = record { id = document.id; places = places_of (facets_of document) }

-- paths and numbers are in their ranges
abbrev pub AreNarrow : List (ℕ × Facet) → Type 0
AreNarrow facets = AllByRecursion (λ x. IsNarrow x.0 x.1) facets

abbrev pub IsNarrowDocument : LeavesView → Type 0
IsNarrowDocument document = AreNarrow (facets_of document)

-- the posting lists are those of the documents
pub record IsIndexOf (view : PostingsView) (documents : List LeavesView) : Type 0 where
  pub keys : StandsFor view (map keyed documents)
  pub narrow : AllByRecursion IsNarrowDocument documents

-- whether an entry of a list is of the document
abbrev pub has_document : ℕ → List ℕ → Bool
has_document id entries = list_any (λ entry. entry / 2 ^ 32 == id) entries
