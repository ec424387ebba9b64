-- The stored documents that a change names.
use Rattle.std.specs.Prelude.{◌≡◌, ℕ, Bool, List, map, bytes_eq}
use Rattle.std.specs.List.{filter, list_any}
use Rattle.serde_json.specs.Data.{Data}
use Rattle.doc_store.specs.Store.{Row}
use Rattle.doc_index.specs.declared.named.Stored.{Stored}

-- one of the external ids is that of the document
abbrev pub is_named : List (List ℕ) → Row → Bool
is_named externals r = list_any (bytes_eq r.external) externals

-- the documents with these external ids, in the order of their internal ids
abbrev pub named : List (List ℕ) → List Row → List Row
named externals rows = filter (is_named externals) rows

abbrev pub stored_of : Stored → ℕ × Data
stored_of found = (found.id.0, found.text)

abbrev pub row_of : Row → ℕ × Data
row_of r = (r.id, r.document)

-- these documents were read
abbrev pub AreRead : List Stored → List Row → Type 0
AreRead found rows = map stored_of found ≡ map row_of rows
