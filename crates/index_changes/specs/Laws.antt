-- What holds of an index whatever changes it takes.
use Rattle.std.specs.Prelude.{◌≡◌, ◌<◌, ◌≤◌, ℕ, List, ◌++◌, length, bytes_eq, false, Some, None, Ok}
use Rattle.std.specs.List.{list_any}
use Rattle.serde_json.specs.Data.{Data}
use Rattle.document_changes.specs.Changes.{KindData, remove, clear}
use Rattle.doc_store.specs.Store.{row_at, id_of}
use Rattle.index_changes.specs.Fetches.{needed}
use Rattle.index_changes.specs.Index.{Index, documents}
use Rattle.index_changes.specs.PlanView.{PlanView}
use Rattle.index_changes.specs.PlanView as work
use Rattle.index_changes.specs.Plans.{planned, applied}

-- the index took the change, and became the other one
pub record Takes (index : Index) (change : KindData) (after : Index) : Type 0 where
  pub plan : PlanView
  pub is_planned : planned index change ≡ Ok plan
  pub is_applied : applied plan index ≡ Ok after

-- an index that has a key keeps it
abbrev pub KeyStays : Type 0
KeyStays = (index after : Index) (change : KindData) (key : List ℕ) → index.key ≡ Some key
    → Takes index change after → after.key ≡ Some key

-- the registry of paths only grows, at its end
abbrev pub PathsStay : Type 0
PathsStay = (index after : Index) (change : KindData) → Takes index change after
    → (more : List (List ℕ)) × (after.store.paths ≡ index.store.paths ++ more)

-- an internal id that was given and whose document is gone is never given again
abbrev pub IdsAreSpentOnce : Type 0
IdsAreSpentOnce = (index after : Index) (change : KindData) (id : ℕ) → Takes index change after →
    id < index.store.next_id → row_at id index.store.rows ≡ None
    → (index.store.next_id ≤ after.store.next_id) × (row_at id after.store.rows ≡ None)

-- the change takes no document with this external id away
abbrev pub Spares : KindData → List ℕ → Type 0
Spares (remove ids) external = list_any (bytes_eq external) ids ≡ false
Spares clear external = ⊥
Spares other external = Unit {0}

-- a document keeps its internal id over each change that does not take it away
abbrev pub DocumentsStay : Type 0
DocumentsStay = (index after : Index) (change : KindData) (external : List ℕ) (id : ℕ) → Takes index change after
    → Spares change external →
    id_of external index.store.rows ≡ Some id → id_of external after.store.rows ≡ Some id

-- a patch or a reset reads each document at most once
abbrev pub SettingsReadOnce : Type 0
SettingsReadOnce = (index : Index) (members : Data)
    → (needed (work.patch members) index ≤ length (documents index))
    × (needed work.reset index ≤ length (documents index))
