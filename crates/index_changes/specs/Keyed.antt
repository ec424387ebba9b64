-- The primary key of an index: it is not empty, and each document stands under the external id that it gives.
use Rattle.std.specs.Prelude.{◌≡◌, ◌<◌, ℕ, List, [], length, Option, None, Some, Ok, IfSome, unwrap_or}
use Rattle.std.specs.List.{AllByRecursion}
use Rattle.serde_json.specs.Data.{Data}
use Rattle.serde_json.specs.Written.{compact_text}
use Rattle.document_changes.specs.Changes.{KindData, create, drop_index, replace, update, remove, clear, patch, reset}
use Rattle.doc_values.specs.Ids.{external_id_of}
use Rattle.doc_values.specs.Stored.{document_at}
use Rattle.doc_store.specs.declared.rows.StoreRow.{StoreRow}
use Rattle.doc_store.specs.Store.{Row}
use Rattle.index_image.specs.State.{IsPrimaryKey}
use Rattle.index_changes.specs.PlanView.{Work, IsGood}
use Rattle.index_changes.specs.PlanView as work

-- a key that a change gives is not empty
abbrev pub HasKey : KindData → Type 0
HasKey (create key) = IfSome key (λ text. 0 < length text)
HasKey drop_index = Unit {0}
HasKey (replace key documents) = IfSome key (λ text. 0 < length text)
HasKey (update key documents) = IfSome key (λ text. 0 < length text)
HasKey (remove ids) = Unit {0}
HasKey clear = Unit {0}
HasKey (patch members) = Unit {0}
HasKey reset = Unit {0}

-- the document gives this external id under the key
abbrev pub IsUnder : List ℕ → List ℕ → Data → Type 0
IsUnder key external document = external_id_of key document ≡ Ok external

abbrev pub AreUnder : List ℕ → List Row → Type 0
AreUnder key rows = AllByRecursion (λ r. IsUnder key r.external r.document) rows

-- without a key there are no documents
abbrev pub NoneWithout : {A : Type 0} → Option (List ℕ) → List A → Type 0
NoneWithout None rows = rows ≡ []
NoneWithout (Some key) rows = Unit {0}

pub record IsKeyed (key : Option (List ℕ)) (rows : List Row) : Type 0 where
  pub given : IsPrimaryKey key
  pub none : NoneWithout key rows
  pub ids : AreUnder (unwrap_or key []) rows

-- ---- plans

-- the same of documents that come
pub record AreKeyed (key : Option (List ℕ)) (rows : List StoreRow) : Type 0 where
  pub none : NoneWithout key rows
  pub ids : AllByRecursion (λ r. IsUnder (unwrap_or key []) r.external r.document) rows

-- each document is read back from its text
abbrev pub AreReadBack : List StoreRow → Type 0
AreReadBack rows = AllByRecursion (λ r. document_at (compact_text r.document) ≡ Some r.document) rows

abbrev pub IsKeyedWork : Option (List ℕ) → Work → Type 0
IsKeyedWork key (work.replace rows) = AreKeyed key rows
IsKeyedWork key (work.update rows) = AreKeyed key rows
IsKeyedWork key (work.remove ids) = Unit {0}
IsKeyedWork key work.clear = Unit {0}
IsKeyedWork key (work.patch members) = Unit {0}
IsKeyedWork key work.reset = Unit {0}

-- what every plan is: its patch is not refused, its key is not empty, and its documents have their ids by the key
pub record IsReady (key : Option (List ℕ)) (does : Work) : Type 0 where
  pub good : IsGood does
  pub given : IsPrimaryKey key
  pub rows : IsKeyedWork key does
