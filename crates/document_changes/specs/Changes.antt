-- What contracts see of a change: each vector is a list, and each JSON value its data.
use Rattle.std.specs.Prelude.{ℕ, List, Option}
use Rattle.serde_json.specs.Data.{Data}
use Rattle.serde_json.specs.View.{view}
use Rattle.document_changes.specs.declared.change.Change.{Change}
use Rattle.document_changes.specs.declared.change.ChangeKind.{ChangeKind}
use Rattle.document_changes.specs.declared.change.ChangeKind.TheVariants as kind

pub data KindData : Type 0 where
  create : Option (List ℕ) → KindData
  drop_index : KindData
  replace : Option (List ℕ) → List Data → KindData
  update : Option (List ℕ) → List Data → KindData
  remove : List (List ℕ) → KindData
  clear : KindData
  patch : Data → KindData
  reset : KindData

pub record ChangeData : Type 0 where
  pub uid : List ℕ
  pub kind : KindData

abbrev pub kind_view : ChangeKind → KindData
kind_view (kind.Create key) = create key
kind_view kind.Drop = drop_index
kind_view (kind.Replace key documents) = replace key documents
kind_view (kind.Update key documents) = update key documents
kind_view (kind.Remove ids) = remove ids.items
kind_view kind.Clear = clear
kind_view (kind.Patch members) = patch (view members)
kind_view kind.Reset = reset

abbrev pub change_view : Change → ChangeData
change_view c = record { uid = c.uid; kind = kind_view c.kind }
