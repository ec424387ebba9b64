-- Of documents that come one after the other, the last of each internal id.
use Rattle.std.specs.Prelude.{◌≡◌, ℕ, List, [], ◌∷◌, if◌then◌else◌}
use Rattle.doc_rows.specs.declared.path_use.PathUse.{PathUse}
use Rattle.doc_store.specs.declared.rows.StoreRow.{StoreRow}
use Rattle.row_index.specs.Documents.{IndexedDocument, has_id}
use Rattle.doc_sets.specs.Sets.{has}
use Rattle.doc_index.specs.Documents.{indexed}

-- documents that come, and before them another one, unless one of its internal id is among them
abbrev pub with_last : List (List ℕ) → List PathUse → ℕ → StoreRow → List IndexedDocument → List IndexedDocument
with_last paths uses id r later = if has_id id later then later else indexed paths uses id r.document ∷ later

-- the documents with these internal ids, without those that a later one of the same id replaces
abbrev pub last_of : List (List ℕ) → List PathUse → List ℕ → List StoreRow → List IndexedDocument
last_of paths uses [] documents = []
last_of paths uses (id ∷ ids) [] = []
last_of paths uses (id ∷ ids) (r ∷ documents) = with_last paths uses id r (last_of paths uses ids documents)

-- these are the internal ids of the documents
abbrev pub AreTheirIds : List ℕ → List IndexedDocument → Type 0
AreTheirIds ids documents = (id : ℕ) → has ids id ≡ has_id id documents
