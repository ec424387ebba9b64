-- Documents of changes that an index takes together, gathered under the primary key that it has by then.
use Rattle.std.specs.Prelude.{◌≡◌, ◌≤◌, ℕ, List, [], ◌++◌, Option, Some, None, Result, Ok, Err}
use Rattle.search_base.specs.Trying.{◌>>=◌}
use Rattle.serde_json.specs.Data.{Data}
use Rattle.document_changes.specs.Changes.{KindData, replace, update}
use Rattle.doc_store.specs.declared.rows.StoreRow.{StoreRow}
use Rattle.doc_store.specs.declared.rows.StoreRefusal.{StoreRefusal}
use Rattle.doc_store.specs.Store.{Store, all_stored, externals, spent}
use Rattle.doc_store.specs.StoreView.{IsAdmitted}
use Rattle.index_image.specs.State.{IsPrimaryKey}
use Rattle.index_changes.specs.declared.batch.BatchKind.{BatchKind}
use Rattle.index_changes.specs.declared.batch.BatchKind.TheVariants as batch
use Rattle.index_changes.specs.declared.gathered.Gathered.{Gathered}
use Rattle.index_changes.specs.declared.gathered.Gathering.{Gathering}
use Rattle.index_changes.specs.declared.gathered.Planned.{Planned}
use Rattle.index_changes.specs.declared.refusal.CoreRefusal.{CoreRefusal}
use Rattle.index_changes.specs.Batches.{after_each, faults_of, batch_needed}
use Rattle.index_changes.specs.Fetches.{named_needed}
use Rattle.index_changes.specs.Index.{Index}
use Rattle.index_changes.specs.Keyed.{AreKeyed, AreReadBack}
use Rattle.index_changes.specs.Plans.{key_for, rows_for, Keeps, all_updated}
use Rattle.index_changes.specs.Refusals.{store_refusal}

-- the store after documents that come: each over the one of its external id, or whole
abbrev pub stored_by : BatchKind → List StoreRow → Store → Store
stored_by batch.Update rows s = all_updated rows s
stored_by other rows s = all_stored rows s

-- a change that stores documents, with the key that it gives and these documents
abbrev pub Stores : KindData → Type 0
Stores (replace given ds) = Unit {0}
Stores (update given ds) = Unit {0}
Stores other = ⊥

abbrev pub key_in : KindData → Option (List ℕ)
key_in (replace given ds) = given
key_in (update given ds) = given
key_in other = None

abbrev pub documents_in : KindData → List Data
documents_in (replace given ds) = ds
documents_in (update given ds) = ds
documents_in other = []

-- a primary key, and documents under it
pub record KeyedRows : Type 0 where
  pub key : Option (List ℕ)
  pub rows : List StoreRow

-- the index under the key, with the documents
abbrev pub with_rows : BatchKind → KeyedRows → Index → Index
with_rows kind keyed index =
    record { key = keyed.key; store = stored_by kind keyed.rows index.store; settings = index.settings }

-- ---- one change more

abbrev pub unless_refused : KeyedRows → Option StoreRefusal → Result KeyedRows CoreRefusal
unless_refused keyed None = Ok keyed
unless_refused keyed (Some refusal) = Err (store_refusal refusal)

-- the key of a change is tried, and then the id of each of its documents
abbrev pub rows_planned : Option (List ℕ) → Option (List ℕ) → List Data → Result KeyedRows CoreRefusal
rows_planned own given ds = do
  key ← key_for own given ds
  rows ← rows_for key ds
  Ok (record { key = key; rows = rows })

-- then its documents come behind those that were gathered before, where the store may take them all
abbrev pub with_planned : KeyedRows → KeyedRows → Store → Result KeyedRows CoreRefusal
with_planned before planned s =
    let rows = before.rows ++ planned.rows in
    unless_refused (record { key = planned.key; rows = rows }) (spent (all_stored rows s))

abbrev pub with_change : KeyedRows → Option (List ℕ) → List Data → Store → Result KeyedRows CoreRefusal
with_change before given ds s = rows_planned before.key given ds >>= (λ planned. with_planned before planned s)

-- the documents of a change that have their ids under the key are read back from their texts
abbrev pub WouldReadBack : KeyedRows → Option (List ℕ) → List Data → Type 0
WouldReadBack before given ds =
    (planned : KeyedRows) → rows_planned before.key given ds ≡ Ok planned → AreReadBack planned.rows

abbrev pub planned_rows : Planned → KeyedRows
planned_rows p = record { key = p.key; rows = p.rows.items }

abbrev pub rows_in : Gathering → KeyedRows
rows_in g = record { key = g.key; rows = g.rows.items }

-- ---- all changes

-- What changes of a kind that stores documents come to for the index: why each of them is refused, if it is, and the
-- key and the documents by which it becomes what they leave one by one. The documents are admitted to its store as they
-- came, and name no more than the changes do.
pub record IsGathered (kind : BatchKind) (changes : List KindData) (index : Index) (g : Gathered) : Type 0 where
  pub faults : g.faults.items ≡ faults_of changes index
  pub after : with_rows kind (record { key = g.key; rows = g.rows.items }) index ≡ after_each changes index
  pub admitted : IsAdmitted index.store g.rows.items g.admission
  pub given : IsPrimaryKey g.key
  pub keeps : Keeps index.key g.key
  pub keyed : AreKeyed g.key g.rows.items
  pub back : AreReadBack g.rows.items
  pub named : named_needed (externals g.rows.items) index ≤ batch_needed changes index
